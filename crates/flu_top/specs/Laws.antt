-- What follows from the outcome of a call: each status by itself, what was read, and what holds if nothing failed.
use Rattle.std.specs.Prelude.{◌≡◌, ◌≢◌, ◌↔◌, ◌⊎◌, ◌<◌, ℕ, List, [], ◌∷◌, Bool, true, false, Contains, IsTrue, Option, Some, None, ◌++◌, Ok, Err}
use Rattle.flu_outside.specs.Outside.{Contents, WhereTold, Rose, Appends, SameCounts}
use Rattle.flu_outside.specs.Taking.{bytes_left, TookFronts}
use Rattle.flu_outside.specs.Writing.{AppendsAll}
use Rattle.flu_model.specs.declared.events.Item.{Item}
use Rattle.flu_model.specs.Contents.{nothing_held}
use Rattle.flu_model.specs.Folding.{final_state, final_outputs}
use Rattle.flu_model.specs.Reports.{report}
use Rattle.flu_rounds.specs.Written.{lists_above}
use Rattle.flu_streams.specs.Borders.{up_to}
use Rattle.flu_model.specs.Erasure.{job_of}
use Rattle.flu_model.specs.declared.jobs.Program.{Program}
use Rattle.flu_model.specs.Modes.{IsAccepted}
use Rattle.flu_parse.specs.declared.faults.JobFault.{JobFault}
use Rattle.flu_check.specs.declared.CheckFault.{CheckFault}
use Rattle.flu_streams.specs.declared.faults.SourceFault.{SourceFault}
use Rattle.flu_lines.specs.declared.refusals.PlanDefect.{PlanDefect}
use Rattle.flu_lines.specs.declared.refusals.SaveDefect.{SaveDefect}
use Rattle.flu_trace.specs.declared.faults.ReplayFault.{ReplayFault}
use Rattle.flu_words.specs.Words.{Command, Run, RunOptions, Simulate, Demo, command_in}
use Rattle.flu_command.specs.Taking.{TookOnly}
use Rattle.flu_command.specs.Behind.{Named, HasJob, report_behind}
use Rattle.flu_command.specs.Openings.{Opening, report_from}
use Rattle.flu_command.specs.Reading.{InRounds, HasDefect}
use Rattle.flu_command.specs.Replaying.{HasCompleteTrace}
use Rattle.flu_command.specs.TextFaults.{IsFirstJobFault}
use Rattle.flu_command.specs.Starting.{StartsFrom, CanStart}
use Rattle.flu_command.specs.Wants.{want, job_wanted, plan_named, if_named, asks_accepted, how_read, says_nothing, texts_named, Writes, IsObservedText}
use Rattle.flu_command.specs.Wants.{IsSomePlanText}
use Rattle.flu_command.specs.Done.{HasValidPlan, HasPlanAsked, IsGood, IsDone, WhereKnown, Wrote, WroteSome, WroteForMemory, WroteForPut, WrotePart, IsReadBy}
use Rattle.flu_command.specs.Done.{IsSavedBy, MayBePut}
use Rattle.flu_command.specs.Causes.{HasJobFault, HasConflict, HasPlanDefect, HasSaveDefect, HasSourceFault, HasTraceFault}
use Rattle.flu_lines.specs.Names.{source_name}
use Rattle.flu_command.specs.Simulating.{IsLineOfRun, IsStepLine}
use Rattle.flu_command.specs.Demos.{demo_job, demo_summary}
use Rattle.flu_lines.specs.Lines.{bad_words_line, job_fault_line, conflict_line, plan_defect_line, source_fault_line, read_fault_line, write_fault_line}
use Rattle.flu_lines.specs.Lines.{no_memory_line, save_defect_line, put_fault_line, trace_fault_line}
use Rattle.flu_top.specs.Outcome.{Outside, Said, Hears, Outcome, ReadOnly, Faults, FaultsFirst, NothingFailed, Completes}
use Rattle.flu_command.specs.Calling.{HasFaultyTrace}

-- ---- the statuses
-- the status is one of these
abbrev pub KnownStatuses : Type 0
KnownStatuses =
    (words : List (List ℕ)) (old new : Outside) (status : ℕ) → Outcome words old new status
    → Contains (0 ∷ 2 ∷ 3 ∷ 4 ∷ 5 ∷ 6 ∷ 7 ∷ 8 ∷ 9 ∷ 11 ∷ 12 ∷ 13 ∷ []) status

-- status 0: all that the command reads was read to its end, out got what it writes, and err what it says
abbrev pub DoneIsDone : Type 0
DoneIsDone =
    (words : List (List ℕ)) (old new : Outside) (status : ℕ) → Outcome words old new status → status ≡ 0
    → (command : Command) × (line : List ℕ) × (command_in words ≡ Ok command)
    × WhereKnown (job_wanted command) old.left new.left (IsDone command old.out new.out line) × Hears (want command).says old new line

-- status 0 of a command that says nothing: err is untouched
abbrev pub DoneIsQuiet : Type 0
DoneIsQuiet =
    (words : List (List ℕ)) (old new : Outside) (status : ℕ) → Outcome words old new status → status ≡ 0
    → (command : Command) → command_in words ≡ Ok command → IsTrue (says_nothing command) → new.err ≡ old.err

-- status 0 of `simulate`: err gets the line of some steps, and if it is known what the files hold, these are the steps that the seed
-- draws on the net of the plan
abbrev pub SimulationIsHeard : Type 0
SimulationIsHeard =
    (words : List (List ℕ)) (old new : Outside) (status : ℕ) → Outcome words old new status → status ≡ 0
    → (job plan : List ℕ) (seed : ℕ) (trace : Bool) → command_in words ≡ Ok (Simulate job plan seed trace)
    → (line : List ℕ) × IsStepLine line × Said old new line
    × WhereTold old.left new.left (λ left _. (p : Program) × HasJob (Named job) left p × IsLineOfRun job plan seed left p line)

-- status 0 of `run .. --adapt`: out gets what the same run without `--adapt` writes, and err the text of some plan; if it is known what
-- the files hold, it is the text of the observed plan of all events of the run, above its opening
abbrev pub AdaptedPlanIsHeard : Type 0
AdaptedPlanIsHeard =
    (words : List (List ℕ)) (old new : Outside) (status : ℕ) → Outcome words old new status → status ≡ 0
    → (job : List ℕ) (plan : Option (List ℕ)) (depth rows : ℕ) (save : Option (List ℕ)) (unflushed : Bool) (resume : Option (List ℕ))
    → command_in words ≡ Ok (Run job plan (record { depth = depth; rows = rows; adapt = true; save = save; unflushed = unflushed; resume = resume }))
    → (line : List ℕ) × IsSomePlanText line × Said old new line
    × WhereTold old.left new.left (λ left _. (p : Program) × HasJob (Named job) left p
    × ((text : List ℕ)
    × Writes (Run job plan (record { depth = depth; rows = rows; adapt = false; save = save; unflushed = unflushed; resume = resume })) left p text
    × WhereTold old.out new.out (AppendsAll text))
    × IsObservedText rows (job ∷ if_named plan) resume left p line)

-- status 2 comes exactly if the words are not a command
abbrev pub BadWordsExactly : Type 0
BadWordsExactly =
    (words : List (List ℕ)) (old new : Outside) (status : ℕ) → Outcome words old new status → (status ≡ 2) ↔ ((at : ℕ) × (command_in words ≡ Err at))

-- words that are not a command: err gets their line
abbrev pub BadWordsLine : Type 0
BadWordsLine =
    (words : List (List ℕ)) (old new : Outside) (status : ℕ) → Outcome words old new status
    → (at : ℕ) → command_in words ≡ Err at → Said old new (bad_words_line at)

-- status 2: no file is touched
abbrev pub BadWordsTouchNothing : Type 0
BadWordsTouchNothing =
    (words : List (List ℕ)) (old new : Outside) (status : ℕ) → Outcome words old new status → status ≡ 2 → new.left ≡ old.left

-- status 3: the job's bytes have a fault, and err gets the line of the first one
abbrev pub JobFaultIsFirst : Type 0
JobFaultIsFirst =
    (words : List (List ℕ)) (old new : Outside) (status : ℕ) → Outcome words old new status → status ≡ 3
    → (command : Command) × (fault : JobFault) × (command_in words ≡ Ok command)
    × HasJobFault (job_wanted command) old.left new.left fault × Said old new (job_fault_line fault)

-- status 4: the command asks for an accepted job and its job is not accepted, and err gets the line of its first conflict
abbrev pub ConflictIsFirst : Type 0
ConflictIsFirst =
    (words : List (List ℕ)) (old new : Outside) (status : ℕ) → Outcome words old new status → status ≡ 4
    → (command : Command) × (fault : CheckFault) × (command_in words ≡ Ok command)
    × HasConflict command old.left new.left fault × Said old new (conflict_line fault)

-- status 5: the command names a plan and its job is accepted, but the plan's text has a fault for it or the plan is not valid for it, and err
-- gets the line of the first one
abbrev pub PlanDefectIsFirst : Type 0
PlanDefectIsFirst =
    (words : List (List ℕ)) (old new : Outside) (status : ℕ) → Outcome words old new status → status ≡ 5
    → (command : Command) × (defect : PlanDefect) × (command_in words ≡ Ok command)
    × HasPlanDefect command old.left new.left defect × Said old new (plan_defect_line defect)

-- status 6: the command reads sources and one of its job's has a defect, and err gets the line of the first one; if it reads them in
-- rounds, that is the defect of the earliest round that meets any, and out gets what the rounds before that one wrote
abbrev pub SourceFaultIsFirst : Type 0
SourceFaultIsFirst =
    (words : List (List ℕ)) (old new : Outside) (status : ℕ) → Outcome words old new status → status ≡ 6
    → (command : Command) × (p : Program) × (fault : SourceFault) × (text : List ℕ) × (command_in words ≡ Ok command)
    × HasSourceFault command old.left new.left p fault text × Wrote (how_read command) text old.out new.out
    × Said old new (source_fault_line (source_name p fault.source) fault.row fault.why)

-- status 11: nothing refuses the command before it would start, this keeps it from starting, and err gets its line
abbrev pub SaveDefectIsFirst : Type 0
SaveDefectIsFirst =
    (words : List (List ℕ)) (old new : Outside) (status : ℕ) → Outcome words old new status → status ≡ 11
    → (command : Command) × (defect : SaveDefect) × (command_in words ≡ Ok command)
    × HasSaveDefect command old.left new.left defect × Said old new (save_defect_line defect)

-- status 13: the command reads a trace, and once nothing refuses it before that, this stops the replay of the trace, and err gets its line
abbrev pub TraceFaultIsFirst : Type 0
TraceFaultIsFirst =
    (words : List (List ℕ)) (old new : Outside) (status : ℕ) → Outcome words old new status → status ≡ 13
    → (command : Command) × (fault : ReplayFault) × (command_in words ≡ Ok command)
    × HasTraceFault command old.left new.left fault × Said old new (trace_fault_line fault)

-- status 7: the count of a name that the call reads rose
abbrev pub ReadFaultRose : Type 0
ReadFaultRose =
    (words : List (List ℕ)) (left : Option Contents) (before now : Faults) (status : ℕ) → FaultsFirst words left before now status → status ≡ 7
    → (name : List ℕ) × IsReadBy words left name × Rose (before.takes name) (now.takes name)

-- status 7: err gets the line of a read fault
abbrev pub ReadFaultLine : Type 0
ReadFaultLine =
    (words : List (List ℕ)) (old new : Outside) (status : ℕ) → Outcome words old new status → status ≡ 7 → Said old new read_fault_line

-- status 8: out's count rose
abbrev pub WriteFaultRose : Type 0
WriteFaultRose =
    (words : List (List ℕ)) (left : Option Contents) (before now : Faults) (status : ℕ) → FaultsFirst words left before now status → status ≡ 8
    → Rose before.out now.out

-- status 8: out got a prefix of what the command writes, which is not all of it. All was read; or, in rounds, what the rounds up to some
-- round wrote is there, and a proper prefix of the next round's report
abbrev pub WriteFaultIsPart : Type 0
WriteFaultIsPart =
    (words : List (List ℕ)) (old new : Outside) (status : ℕ) → Outcome words old new status → status ≡ 8
    → (command : Command) × (command_in words ≡ Ok command)
    × WrotePart (how_read command) command old.left new.left old.out new.out

-- status 8: err gets the line of a write fault
abbrev pub WriteFaultLine : Type 0
WriteFaultLine =
    (words : List (List ℕ)) (old new : Outside) (status : ℕ) → Outcome words old new status → status ≡ 8 → Said old new write_fault_line

-- status 12: the count of puts of the name that the call saves to rose
abbrev pub PutFaultRose : Type 0
PutFaultRose =
    (words : List (List ℕ)) (left : Option Contents) (before now : Faults) (status : ℕ) → FaultsFirst words left before now status → status ≡ 12
    → (name : List ℕ) × IsSavedBy words name × Rose (before.puts name) (now.puts name)

-- at every status but 7 no count of takes has changed, at every one but 8 the count of out has not, and at every one but 12 no count of puts
abbrev pub NoFailureIsPassedOver : Type 0
NoFailureIsPassedOver =
    (words : List (List ℕ)) (left : Option Contents) (before now : Faults) (status : ℕ) → FaultsFirst words left before now status
    → (status ≢ 7 → SameCounts before.takes now.takes) × (status ≢ 8 → now.out ≡ before.out) × (status ≢ 12 → SameCounts before.puts now.puts)

-- status 12: out got the report of some round and of those before it, and err the line of a save fault
abbrev pub PutFaultIsBehindARound : Type 0
PutFaultIsBehindARound =
    (words : List (List ℕ)) (old new : Outside) (status : ℕ) → Outcome words old new status → status ≡ 12
    → (command : Command) × (command_in words ≡ Ok command) × WroteForPut command old.left new.left old.out new.out × Said old new put_fault_line

-- status 9: err gets the line for out of memory
abbrev pub NoMemoryLine : Type 0
NoMemoryLine =
    (words : List (List ℕ)) (old new : Outside) (status : ℕ) → Outcome words old new status → status ≡ 9 → Said old new no_memory_line

-- at every status but 0 and 8 out gets nothing, if the command does not read in rounds
abbrev pub NothingIsWritten : Type 0
NothingIsWritten =
    (words : List (List ℕ)) (old new : Outside) (status : ℕ) → Outcome words old new status → status ≢ 0 → status ≢ 8
    → ((command : Command) → command_in words ≡ Ok command → how_read command ≢ InRounds) → new.out ≡ old.out

-- at the statuses below 6 except 0, and at 11 and 13, it gets nothing
abbrev pub RefusalsWriteNothing : Type 0
RefusalsWriteNothing =
    (words : List (List ℕ)) (old new : Outside) (status : ℕ) → Outcome words old new status → status ≢ 0
    → (status < 6) ⊎ ((status ≡ 11) ⊎ (status ≡ 13)) → new.out ≡ old.out

-- status 7: out gets nothing; or, if the command reads in rounds, what the rounds up to some round wrote
abbrev pub SomeIsWritten : Type 0
SomeIsWritten =
    (words : List (List ℕ)) (old new : Outside) (status : ℕ) → Outcome words old new status → status ≡ 7
    → (command : Command) × (command_in words ≡ Ok command) × WroteSome (how_read command) command old.left new.left old.out new.out

-- status 9: the same; or, if a checkpoint was to be put, the report of one round more
abbrev pub SomeIsWrittenForMemory : Type 0
SomeIsWrittenForMemory =
    (words : List (List ℕ)) (old new : Outside) (status : ℕ) → Outcome words old new status → status ≡ 9
    → (command : Command) × (command_in words ≡ Ok command) × WroteForMemory (how_read command) command old.left new.left old.out new.out

-- ---- run
-- what a run of good sources wrote is a prefix of its report, from its opening, whatever its status: so also at 7 to 9 and 12
abbrev pub RunsWriteFronts : Type 0
RunsWriteFronts =
    (words : List (List ℕ)) (old new : Outside) (status : ℕ) → Outcome words old new status
    → (job : List ℕ) (plan : Option (List ℕ)) (options : RunOptions) (left : Contents) (p : Program) → command_in words ≡ Ok (Run job plan options)
    → old.left ≡ Some left → IsGood (Run job plan options) left p
    → (q : Program) × HasJob (Named job) left q
    × ((o : Opening) × StartsFrom (Run job plan options) left q o
    × WhereTold old.out new.out (λ had has. (n : ℕ) × Appends n (report_from o (texts_named (Run job plan options)) left q) had has))

-- a run that is not resumed opens fresh, so its report is the report of the fold of all events from the empty state
abbrev pub FreshRunsReportTheFold : Type 0
FreshRunsReportTheFold =
    (job : List ℕ) (plan : Option (List ℕ)) (depth rows : ℕ) (adapt : Bool) (save : Option (List ℕ)) (unflushed : Bool)
    → (left : Contents) (p : Program) (o : Opening)
    → StartsFrom (Run job plan (record { depth = depth; rows = rows; adapt = adapt; save = save; unflushed = unflushed; resume = None })) left p o
    → report_from o
    (texts_named (Run job plan (record { depth = depth; rows = rows; adapt = adapt; save = save; unflushed = unflushed; resume = None }))) left p
    ≡ report_behind (job ∷ if_named plan) left p

-- the report up to a border and the report of a run that is resumed from its checkpoint are together the report of the whole: the later
-- events are run from the state of the earlier ones
abbrev pub ResumedRunsGoOn : Type 0
ResumedRunsGoOn =
    (p : Program) (lists : List (List Item)) (t : ℕ)
    → report p (final_outputs p nothing_held lists)
    ≡ report p (final_outputs p nothing_held (up_to p t lists)) ++ report p
    (final_outputs p (final_state p nothing_held (up_to p t lists)) (lists_above p (Some t) lists))

-- ---- demo
-- `demo` reads no file
abbrev pub DemoReadsNothing : Type 0
DemoReadsNothing =
    (words : List (List ℕ)) (n seed : ℕ) → command_in words ≡ Ok (Demo n seed)
    → (left : Option Contents) (name : List ℕ) → ¬ IsReadBy words left name

-- `demo` has status 0, 8 or 9
abbrev pub DemoStatuses : Type 0
DemoStatuses =
    (words : List (List ℕ)) (old new : Outside) (status : ℕ) (before now : Faults)
    → Outcome words old new status → FaultsFirst words old.left before now status
    → (n seed : ℕ) → command_in words ≡ Ok (Demo n seed) → Contains (0 ∷ 8 ∷ 9 ∷ []) status

-- status 0 of `demo`: out gets the summary of the report of what the seed draws, whatever the files hold, known or not
abbrev pub DemoIsDone : Type 0
DemoIsDone =
    (words : List (List ℕ)) (old new : Outside) (status : ℕ) → Outcome words old new status → status ≡ 0
    → (n seed : ℕ) → command_in words ≡ Ok (Demo n seed)
    → (p : Program) × (job_of p ≡ demo_job) × WhereTold old.out new.out (AppendsAll (demo_summary n seed p))

-- ---- what was read
-- bytes are taken from the front of names, if none may have been put
abbrev pub FrontsAreTaken : Type 0
FrontsAreTaken =
    (words : List (List ℕ)) (old new : Option Contents) (status : ℕ) → ReadOnly words old new status → ((name : List ℕ) → ¬ MayBePut words status name)
    → WhereTold old new TookFronts

-- no bytes are taken of a name that the call does not read, and none are put but under one that it saves to
abbrev pub NoOtherIsRead : Type 0
NoOtherIsRead =
    (words : List (List ℕ)) (old new : Option Contents) (status : ℕ) → ReadOnly words old new status
    → WhereTold old new (TookOnly (λ name. IsReadBy words old name ⊎ IsSavedBy words name))

-- ---- if nothing failed
-- a command that nothing refuses has status 0, or 9, if a trace that it reads is complete
abbrev pub GoodIsDone : Type 0
GoodIsDone =
    (words : List (List ℕ)) (told : Option Contents) (before now : Faults) (status : ℕ)
    → Completes words told before now status
    → (command : Command) (left : Contents) (p : Program) → command_in words ≡ Ok command → told ≡ Some left
    → NothingFailed command told before now
    → IsGood command left p → HasCompleteTrace command left p
    → (status ≡ 0) ⊎ (status ≡ 9)

-- a job's text with a fault has status 3, or 9
abbrev pub JobFaultIsRefused : Type 0
JobFaultIsRefused =
    (words : List (List ℕ)) (told : Option Contents) (before now : Faults) (status : ℕ)
    → Completes words told before now status
    → (command : Command) (left : Contents) (name : List ℕ) (fault : JobFault) → command_in words ≡ Ok command → told ≡ Some left
    → NothingFailed command told before now
    → job_wanted command ≡ Named name → IsFirstJobFault (bytes_left left name) fault
    → (status ≡ 3) ⊎ (status ≡ 9)

-- a job that is not accepted, if the command asks for that, has status 4, or 9
abbrev pub ConflictIsRefused : Type 0
ConflictIsRefused =
    (words : List (List ℕ)) (told : Option Contents) (before now : Faults) (status : ℕ)
    → Completes words told before now status
    → (command : Command) (left : Contents) (p : Program) → command_in words ≡ Ok command → told ≡ Some left
    → NothingFailed command told before now
    → IsTrue (asks_accepted command) → HasJob (job_wanted command) left p → ¬ IsAccepted p
    → (status ≡ 4) ⊎ (status ≡ 9)

-- a plan that is not valid for an accepted job has status 5, or 9
abbrev pub PlanDefectIsRefused : Type 0
PlanDefectIsRefused =
    (words : List (List ℕ)) (told : Option Contents) (before now : Faults) (status : ℕ)
    → Completes words told before now status
    → (command : Command) (left : Contents) (p : Program) (plan : List ℕ) → command_in words ≡ Ok command → told ≡ Some left
    → NothingFailed command told before now
    → plan_named command ≡ Some plan → HasJob (job_wanted command) left p → IsAccepted p → ¬ HasValidPlan (job_wanted command) plan left p
    → (status ≡ 5) ⊎ (status ≡ 9)

-- a source with a defect, if the command reads sources and a plan that it names is valid, has status 6, or 9
abbrev pub SourceFaultIsRefused : Type 0
SourceFaultIsRefused =
    (words : List (List ℕ)) (told : Option Contents) (before now : Faults) (status : ℕ)
    → Completes words told before now status
    → (command : Command) (left : Contents) (p : Program) → command_in words ≡ Ok command → told ≡ Some left
    → NothingFailed command told before now
    → HasJob (job_wanted command) left p → (IsTrue (asks_accepted command) → IsAccepted p)
    → HasPlanAsked command left p → CanStart command left p → HasDefect (how_read command) (texts_named command) left p
    → (status ≡ 6) ⊎ (status ≡ 9)

-- a command that nothing refuses before its start, and that can't start, has status 11, or 9
abbrev pub SaveDefectIsRefused : Type 0
SaveDefectIsRefused =
    (words : List (List ℕ)) (told : Option Contents) (before now : Faults) (status : ℕ)
    → Completes words told before now status
    → (command : Command) (left : Contents) (p : Program) → command_in words ≡ Ok command → told ≡ Some left
    → NothingFailed command told before now
    → HasJob (job_wanted command) left p → (IsTrue (asks_accepted command) → IsAccepted p)
    → HasPlanAsked command left p → ¬ CanStart command left p
    → (status ≡ 11) ⊎ (status ≡ 9)

-- a trace that is not complete, if nothing refuses the command before it, has status 13, or 9
abbrev pub TraceFaultIsRefused : Type 0
TraceFaultIsRefused =
    (words : List (List ℕ)) (told : Option Contents) (before now : Faults) (status : ℕ)
    → Completes words told before now status
    → (command : Command) (left : Contents) → command_in words ≡ Ok command → told ≡ Some left
    → NothingFailed command told before now
    → HasFaultyTrace command left
    → (status ≡ 13) ⊎ (status ≡ 9)

-- completeness follows from the outcome, if 7, 8 and 12 come only from faults of the outside
abbrev pub CompletesByFaults : Type 0
CompletesByFaults =
    (words : List (List ℕ)) (old new : Outside) (status : ℕ) (before now : Faults)
    → Outcome words old new status → FaultsFirst words old.left before now status
    → Completes words old.left before now status
