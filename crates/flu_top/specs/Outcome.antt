-- THE OUTCOME of a call of `flumina`: what its status says about the words, about what the files held and hold, and about what out and
-- err got.
use Rattle.std.specs.Prelude.{◌≡◌, ◌≢◌, ℕ, List, Option, Some, Ok, Err, ◌⊎◌}
use Rattle.flu_outside.specs.Outside.{Contents, WhereTold, Rose, SameCounts}
use Rattle.flu_model.specs.declared.jobs.Program.{Program}
use Rattle.flu_parse.specs.declared.faults.JobFault.{JobFault}
use Rattle.flu_check.specs.declared.CheckFault.{CheckFault}
use Rattle.flu_streams.specs.declared.faults.SourceFault.{SourceFault}
use Rattle.flu_lines.specs.declared.statuses.Status.{Status}
use Rattle.flu_lines.specs.declared.statuses.Status.TheVariants as statuses
use Rattle.flu_lines.specs.Statuses.{code}
use Rattle.flu_lines.specs.declared.refusals.PlanDefect.{PlanDefect}
use Rattle.flu_lines.specs.declared.refusals.SaveDefect.{SaveDefect}
use Rattle.flu_trace.specs.declared.faults.ReplayFault.{ReplayFault}
use Rattle.flu_words.specs.Words.{Command, command_in}
use Rattle.flu_command.specs.Calling.{CallsFor}
pub use Rattle.flu_command.specs.Outside.{Outside, outside, Faults, faults}
use Rattle.flu_command.specs.Taking.{TookOnly, TookFrontsBut}
use Rattle.flu_command.specs.Wants.{Saying, Nothing, Line, want, save_named}
use Rattle.flu_command.specs.Done.{IsDone, WhereKnown, Wrote, WroteSome, WroteForMemory, WroteForPut, WrotePart, IsReadName}
use Rattle.flu_command.specs.Done.{IsReadBy, IsSavedBy, MayBePut}
use Rattle.flu_command.specs.Causes.{HasJobFault, HasConflict, HasPlanDefect, HasSaveDefect, HasSourceFault, HasTraceFault}
use Rattle.flu_command.specs.ReadFaults.{HasReadFault}
use Rattle.flu_lines.specs.Names.{source_name}
use Rattle.flu_lines.specs.Lines.{IsSaid, bad_words_line, job_fault_line, conflict_line, plan_defect_line, source_fault_line}
use Rattle.flu_lines.specs.Lines.{read_fault_line, write_fault_line, no_memory_line, save_defect_line, put_fault_line, trace_fault_line}

-- err got this line, or failed and has a prefix of it
abbrev pub Said : Outside → Outside → List ℕ → Type 0
Said old new line = IsSaid line old.err new.err old.err_faults new.err_faults

-- err is untouched if a command says nothing; else it got the line that the command says, or failed and has a prefix of it
abbrev pub Hears : Saying → Outside → Outside → List ℕ → Type 0
Hears Nothing old new line = new.err ≡ old.err
Hears (Line Is IsForm) old new line = IsForm line × Said old new line

-- out got nothing, and err this line
pub record Refused (old new : Outside) (line : List ℕ) : Type 0 where
  pub nothing : new.out ≡ old.out
  pub said : Said old new line

-- ---- the cases, one for each status: `old` is the outside before the call, and `new` after it
abbrev pub Ended : Command → Outside → Outside → Status → Type 0
-- nothing refuses the command, all that it reads was read to its end, out got all that it writes, err what it says, and the last
-- checkpoint is in its place, if it saves any
Ended command old new statuses.Done = (line : List ℕ) × WhereKnown (want command).job old.left new.left (IsDone command old.out new.out line)
    × Hears (want command).says old new line
-- no command is refused for its words
Ended command old new statuses.BadWords = ⊥
-- the bytes of the command's job have this first fault
Ended command old new statuses.JobFault = (fault : JobFault) × HasJobFault (want command).job old.left new.left fault
    × Refused old new (job_fault_line fault)
-- the command wants an accepted job, and its job has this first conflict
Ended command old new statuses.Conflict = (fault : CheckFault) × HasConflict command old.left new.left fault × Refused old new (conflict_line fault)
-- the command's plan has this first defect for its job, which is accepted
Ended command old new statuses.PlanDefect = (defect : PlanDefect) × HasPlanDefect command old.left new.left defect
    × Refused old new (plan_defect_line defect)
-- the command reads the sources of its job, and this is the first defect of the first one that has any; if it reads them in
-- rounds, it is the defect of the earliest round that meets one, and out got what the rounds before that one wrote, as the name
-- that it saves to has what they put
Ended command old new statuses.SourceFault = (p : Program) × (fault : SourceFault) × (text : List ℕ)
    × HasSourceFault command old.left new.left p fault text × Wrote (want command).sources text old.out new.out
    × Said old new (source_fault_line (source_name p fault.source) fault.row fault.why)
-- a file that the command reads failed; if it reads in rounds, out may have what the rounds up to some round wrote
Ended command old new statuses.ReadFault = WroteSome (want command).sources command old.left new.left old.out new.out × Said old new read_fault_line
-- nothing refuses the command, and all that it reads was read; out failed, and got a proper prefix of what the command writes;
-- if it reads in rounds, it has what the rounds up to some round wrote, and a prefix of the next round's report
Ended command old new statuses.WriteFault = WrotePart (want command).sources command old.left new.left old.out new.out × Said old new write_fault_line
-- memory ran out; if the command reads in rounds, out may have what the rounds up to some round wrote
Ended command old new statuses.NoMemory = WroteForMemory (want command).sources command old.left new.left old.out new.out × Said old new no_memory_line
-- a run can't start: a name that it saves to or is resumed from is the name of a source's file, or its checkpoint has this first fault
Ended command old new statuses.SaveDefect = (defect : SaveDefect) × HasSaveDefect command old.left new.left defect
    × Refused old new (save_defect_line defect)
-- a checkpoint could not be put; out has the report of its round and of the rounds before it
Ended command old new statuses.PutFault = WroteForPut command old.left new.left old.out new.out × Said old new put_fault_line
-- the command reads a trace, nothing refuses the command before that, and this stops the replay of the trace
Ended command old new statuses.TraceFault = (fault : ReplayFault) × HasTraceFault command old.left new.left fault × Refused old new (trace_fault_line fault)
-- none of these commands reads a partial
Ended command old new statuses.PartialDefect = ⊥

-- the words are a command, which ended as its status says; or they are none: the one at this place does not fit, and no file was read
pub data Outcome (words : List (List ℕ)) (old new : Outside) (number : ℕ) : Type 0 where
  OfCommand : (status : Status) → number ≡ code status → (command : Command) → command_in words ≡ Ok command → Ended command old new status
      → Outcome words old new number
  OfNone : number ≡ code statuses.BadWords → (at : ℕ) → command_in words ≡ Err at → new.left ≡ old.left → Refused old new (bad_words_line at)
      → Outcome words old new number

-- ---- what was read
-- bytes were taken from the front of names, and of no name that the call does not read, except for one that it put
pub record ReadOnly (words : List (List ℕ)) (old new : Option Contents) (status : ℕ) : Type 0 where
  pub fronts : WhereTold old new (TookFrontsBut (MayBePut words status))
  pub only : WhereTold old new (TookOnly (λ name. IsReadBy words old name ⊎ MayBePut words status name))

-- ---- the faults of the outside
-- status 7 comes only if the count of a name that the call reads rose, status 8 only if the count of out rose, and status 12 only if
-- the count of puts of the name that it saves to rose; and at every other status no such count of any name has changed, so that no
-- failure is passed over
pub record FaultsFirst (words : List (List ℕ)) (left : Option Contents) (before now : Faults) (status : ℕ) : Type 0 where
  pub read : status ≡ 7 → (name : List ℕ) × IsReadBy words left name × Rose (before.takes name) (now.takes name)
  pub write : status ≡ 8 → Rose before.out now.out
  pub put : status ≡ 12 → (name : List ℕ) × IsSavedBy words name × Rose (before.puts name) (now.puts name)
  pub same_takes : status ≢ 7 → SameCounts before.takes now.takes
  pub same_out : status ≢ 8 → now.out ≡ before.out
  pub same_puts : status ≢ 12 → SameCounts before.puts now.puts

-- a read fault hides nothing: status 7 comes only if no fault was met in what was taken
pub record HidesNothing (words : List (List ℕ)) (old new : Option Contents) (before now : Faults) (status : ℕ) : Type 0 where
  pub failed : status ≡ 7 → (command : Command) × (command_in words ≡ Ok command) × HasReadFault command old new before.takes now.takes

-- ---- completeness
-- no name that the command reads failed, none that it saves to, nor did out
pub record NothingFailed (command : Command) (left : Option Contents) (before now : Faults) : Type 0 where
  pub files : (name : List ℕ) → IsReadName left command name → ¬ Rose (before.takes name) (now.takes name)
  pub saves : (name : List ℕ) → save_named command ≡ Some name → ¬ Rose (before.puts name) (now.puts name)
  pub out : ¬ Rose before.out now.out

-- if nothing failed, the status is the one that the command and the files call for, or the one for out of memory
abbrev pub Completes : List (List ℕ) → Option Contents → Faults → Faults → ℕ → Type 0
Completes words told before now status =
    (command : Command) (left : Contents) (wanted : ℕ) → command_in words ≡ Ok command → told ≡ Some left
    → NothingFailed command told before now → CallsFor command left wanted
    → (status ≡ wanted) ⊎ (status ≡ 9)
