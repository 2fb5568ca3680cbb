-- What a call that does its command has done, and which names it reads.
use Rattle.std.specs.Prelude.{◌≡◌, ◌≢◌, ℕ, List, [], ◌∷◌, ◌++◌, Option, Some, None, Contains, ⊤, ◌⊎◌, Ok, IsTrue, IfSome}
use Rattle.flu_outside.specs.Outside.{Contents, WhereTold}
use Rattle.flu_model.specs.declared.jobs.Program.{Program}
use Rattle.flu_model.specs.declared.plans.Node.{Node}
use Rattle.flu_model.specs.Modes.{IsAccepted}
use Rattle.flu_model.specs.Validity.{IsValid}
use Rattle.flu_outside.specs.Writing.{AppendsAll, AppendsPart}
use Rattle.flu_save.specs.Checkpoint.{save}
use Rattle.flu_trace.specs.Replaying.{Complete}
use Rattle.flu_words.specs.Words.{Command, command_in}
use Rattle.flu_command.specs.Behind.{WantedJob, Named, Fixed, HasJob, HasPlan}
use Rattle.flu_command.specs.Openings.{Opening, state_from}
use Rattle.flu_command.specs.Reading.{Reading, Unread, Whole, InRounds, AreSourcesGood, HaveWritten, ReportsNext, greatest_border, lines_behind}
use Rattle.flu_command.specs.Wants.{Saying, Nothing, Line, want, job_wanted, plan_named, save_named, resume_named, trace_named, asks_accepted, how_read}
use Rattle.flu_command.specs.Wants.{texts_named, sources_read, Writes, IsNotSaved}
use Rattle.flu_command.specs.Starting.{AreNoSources, StartsFrom, CanStart, Leaves, LeavesAnything}
use Rattle.flu_command.specs.Replaying.{ReplaysTo}

-- the text under a name, which is read after the job's, is a plan that is valid for the job
abbrev pub HasValidPlan : WantedJob → List ℕ → Contents → Program → Type 0
HasValidPlan job plan left p = (nodes : List Node) × HasPlan job plan left p nodes × IsValid p nodes

-- the plan that the command names, if it names one, is valid for the job
abbrev pub HasPlanAsked : Command → Contents → Program → Type 0
HasPlanAsked command left p = (plan : List ℕ) → plan_named command ≡ Some plan → HasValidPlan (job_wanted command) plan left p

-- the program is the command's job, which is accepted if the command asks for that, the plan that the command names is valid
-- for it, it can start, and its sources have no defect if the command reads them
pub record IsGood (command : Command) (left : Contents) (p : Program) : Type 0 where
  pub has : HasJob (job_wanted command) left p
  pub accepted : IsTrue (asks_accepted command) → IsAccepted p
  pub plan : HasPlanAsked command left p
  pub start : CanStart command left p
  pub sources : AreSourcesGood (how_read command) (texts_named command) left p

-- the trace that the command names, if it names one, is complete, and was read to its end
abbrev pub IsTraceRead : Command → Program → Contents → Contents → Type 0
IsTraceRead command p old new = (trace : List ℕ) → trace_named command ≡ Some trace → ReplaysTo command trace old p Complete × (new trace ≡ Some [])

-- the last checkpoint is under the name that the command saves to, if it saves any: the one of the greatest border and of the state
-- after all events
abbrev pub HasSaved : Command → Program → Contents → Contents → Type 0
HasSaved command p old new = (name : List ℕ) → save_named command ≡ Some name
    → (o : Opening) × StartsFrom command old p o × (new name ≡ Some (save p greatest_border (state_from o (texts_named command) old p)))

-- nothing refuses the command, all that it reads was read to its end, and what it saves was put
pub record IsRead (command : Command) (p : Program) (old new : Contents) : Type 0 where
  pub good : IsGood command old p
  pub ends : (name : List ℕ) → Contains (texts_named command ++ sources_read command p) name → IsNotSaved command name → new name ≡ Some []
  pub trace : IsTraceRead command p old new
  pub saved : HasSaved command p old new

-- this is the line that is said, and the empty line if nothing is said
abbrev pub IsLine : Saying → Contents → Program → List ℕ → Type 0
IsLine Nothing left p line = line ≡ []
IsLine (Line Is IsForm) left p line = Is left p line

-- the line that a command says on err, and the empty line if it says nothing
abbrev pub Says : Command → Contents → Program → List ℕ → Type 0
Says command left p line = IsLine (want command).says left p line

-- all was read, and this is what the command writes and what it says
abbrev pub IsWritten : Command → List ℕ → List ℕ → Contents → Contents → Type 0
IsWritten command text line old new = (p : Program) × IsRead command p old new × Writes command old p text × Says command old p line

-- DONE: all was read, what the command writes was appended to out, and this is what it says on err
abbrev pub IsDone : Command → Option (List ℕ) → Option (List ℕ) → List ℕ → Contents → Contents → Type 0
IsDone command had has line old new =
    (p : Program) × (text : List ℕ) × IsRead command p old new × Writes command old p text × Says command old p line
    × WhereTold had has (AppendsAll text)

-- what is true of what the files hold, if that is known; if the job is a fixed one and no file is read, it is true whatever they hold
abbrev pub WhereKnown : WantedJob → Option Contents → Option Contents → (Contents → Contents → Type 0) → Type 0
WhereKnown (Named name) old new Holds = WhereTold old new Holds
WhereKnown (Fixed job) old new Holds = (left : Contents) → Holds left left

-- all was read, and a proper prefix of what the command writes was appended to out
abbrev pub IsPartlyDone : Command → Option (List ℕ) → Option (List ℕ) → Contents → Contents → Type 0
IsPartlyDone command had has old new =
    (p : Program) × (text : List ℕ) × IsRead command p old new × Writes command old p text × WhereTold had has (AppendsPart text)

-- ---- of a command that is stopped
-- what it wrote before a defect of a source: nothing, if it reads them whole
abbrev pub Wrote : Reading → List ℕ → Option (List ℕ) → Option (List ℕ) → Type 0
Wrote Unread text had has = has ≡ had
Wrote Whole text had has = has ≡ had
Wrote InRounds text had has = WhereTold had has (AppendsAll text)

-- THE ROUNDS UP TO SOME ROUND were run: nothing refuses the command before its sources, what they wrote was appended to out, and what
-- they put is under the name that the command saves to
pub record WroteRounds (command : Command) (old new : Option Contents) (had has : Option (List ℕ)) : Type 0 where
  pub p : Program
  pub text : List ℕ
  pub accepted : IsTrue (asks_accepted command) → IsAccepted p
  pub wrote : WhereTold had has (AppendsAll text)
  pub rounds : WhereTold old new (λ left now. HasJob (job_wanted command) left p × HasPlanAsked command left p
      × ((o : Opening) × StartsFrom command left p o
      × ((put : Option (List ℕ)) × HaveWritten p o (lines_behind (texts_named command) left p) text put × Leaves command put left now)))

-- nothing was written, and nothing was put
pub record WroteNone (command : Command) (old new : Option Contents) (had has : Option (List ℕ)) : Type 0 where
  pub nothing : has ≡ had
  pub as_before : WhereTold old new (Leaves command None)

-- it wrote nothing; or what the rounds up to some round wrote, if it reads in rounds
abbrev pub WroteSome : Reading → Command → Option Contents → Option Contents → Option (List ℕ) → Option (List ℕ) → Type 0
WroteSome Unread command old new had has = has ≡ had
WroteSome Whole command old new had has = has ≡ had
WroteSome InRounds command old new had has = WroteNone command old new had has ⊎ WroteRounds command old new had has

-- ONE ROUND MORE was written than is saved: after what the rounds up to some round wrote comes the report of the next one, and this
-- holds of what is left under the name that the command saves to, by what the rounds up to that round put
pub record WroteUnsaved (Left : Option (List ℕ) → Contents → Contents → Type 0) (command : Command) (old new : Option Contents)
    (had has : Option (List ℕ)) : Type 0 where
  pub p : Program
  pub text : List ℕ
  pub more : List ℕ
  pub saves : save_named command ≢ None
  pub accepted : IsTrue (asks_accepted command) → IsAccepted p
  pub wrote : WhereTold had has (AppendsAll (text ++ more))
  pub round : WhereTold old new (λ left now. HasJob (job_wanted command) left p × HasPlanAsked command left p
      × ((o : Opening) × StartsFrom command left p o
      × ((put : Option (List ℕ)) × ReportsNext p o (lines_behind (texts_named command) left p) text put more × Left put left now)))

-- if memory ran out it wrote some of this, and memory may have run out for a checkpoint
abbrev pub WroteForMemory : Reading → Command → Option Contents → Option Contents → Option (List ℕ) → Option (List ℕ) → Type 0
WroteForMemory how command old new had has = WroteSome how command old new had has ⊎ WroteUnsaved (Leaves command) command old new had has

-- if a checkpoint could not be put, it wrote the report of its round, and nothing is said of what is left under its name
abbrev pub WroteForPut : Command → Option Contents → Option Contents → Option (List ℕ) → Option (List ℕ) → Type 0
WroteForPut command old new had has = WroteUnsaved LeavesAnything command old new had has

-- ---- of a command whose out failed
-- a text was appended to what was there, and then a proper prefix of another one
abbrev pub AppendsInto : List ℕ → List ℕ → List ℕ → List ℕ → Type 0
AppendsInto text more old new = AppendsPart more (old ++ text) new

-- A ROUND WAS BEGUN to be written: nothing refuses the command before its sources, after what the rounds before it wrote comes a proper
-- prefix of its report, and what those rounds put is under the name that the command saves to
pub record WroteIntoRound (command : Command) (old new : Option Contents) (had has : Option (List ℕ)) : Type 0 where
  pub p : Program
  pub text : List ℕ
  pub more : List ℕ
  pub accepted : IsTrue (asks_accepted command) → IsAccepted p
  pub wrote : WhereTold had has (AppendsInto text more)
  pub round : WhereTold old new (λ left now. HasJob (job_wanted command) left p × HasPlanAsked command left p
      × ((o : Opening) × StartsFrom command left p o
      × ((put : Option (List ℕ)) × ReportsNext p o (lines_behind (texts_named command) left p) text put more × Leaves command put left now)))

-- what is in out: a prefix of what the command writes, all being read; or, in rounds, a prefix of what the rounds up to some round write
abbrev pub WrotePart : Reading → Command → Option Contents → Option Contents → Option (List ℕ) → Option (List ℕ) → Type 0
WrotePart Unread command old new had has = WhereKnown (job_wanted command) old new (IsPartlyDone command had has)
WrotePart Whole command old new had has = WhereKnown (job_wanted command) old new (IsPartlyDone command had has)
WrotePart InRounds command old new had has = WroteIntoRound command old new had has

-- ---- names
-- the program is the job that is wanted, or it is not known what the files hold
abbrev pub MayHaveJob : Option Contents → WantedJob → Program → Type 0
MayHaveJob None job p = ⊤
MayHaveJob (Some left) job p = HasJob job left p

-- the name of the trace that a command reads, if nothing refuses it before that, or it is not known what the files hold
pub record IsTraceName (left : Option Contents) (command : Command) (name : List ℕ) : Type 0 where
  pub named : trace_named command ≡ Some name
  pub p : Program
  pub accepted : IsTrue (asks_accepted command) → IsAccepted p
  pub good : IfSome left (λ contents. IsGood command contents p)

-- a program that may be the command's job, as far as the files are known, and is accepted if the command asks for that
pub record MayBeJob (left : Option Contents) (command : Command) (p : Program) : Type 0 where
  pub has : MayHaveJob left (job_wanted command) p
  pub accepted : IsTrue (asks_accepted command) → IsAccepted p

-- the names of the plan, of the checkpoint and of the sources' files that a command reads for a job: before the checkpoint is read, a plan
-- that it asks for has to be valid, and its names must not be those of sources' files; and before the sources are, it has to be able to start
pub record IsPlanName (left : Option Contents) (command : Command) (name : List ℕ) : Type 0 where
  pub p : Program
  pub job : MayBeJob left command p
  pub named : plan_named command ≡ Some name

pub record IsCheckpointName (left : Option Contents) (command : Command) (name : List ℕ) : Type 0 where
  pub p : Program
  pub job : MayBeJob left command p
  pub plan : IfSome left (λ contents. HasPlanAsked command contents p)
  pub apart : AreNoSources command p
  pub named : resume_named command ≡ Some name

pub record IsSourceFile (left : Option Contents) (command : Command) (name : List ℕ) : Type 0 where
  pub p : Program
  pub job : MayBeJob left command p
  pub plan : IfSome left (λ contents. HasPlanAsked command contents p)
  pub apart : AreNoSources command p
  pub start : IfSome left (λ contents. CanStart command contents p)
  pub named : Contains (sources_read command p) name

-- a name that a command reads: of its job, of its plan, of the checkpoint that it is resumed from, of a source of its job, or of its
-- trace
abbrev pub IsReadName : Option Contents → Command → List ℕ → Type 0
IsReadName left command name =
    (job_wanted command ≡ Named name)
    ⊎ IsPlanName left command name ⊎ IsCheckpointName left command name ⊎ IsSourceFile left command name ⊎ IsTraceName left command name

-- a name that a call with some words reads
abbrev pub IsReadBy : List (List ℕ) → Option Contents → List ℕ → Type 0
IsReadBy words left name = (command : Command) × (command_in words ≡ Ok command) × IsReadName left command name

-- a name that a command may have put, at a status: the one that it saves to, if rounds may have been run
abbrev pub IsPutAt : Command → ℕ → List ℕ → Type 0
IsPutAt command status name = (save_named command ≡ Some name) × Contains (0 ∷ 6 ∷ 7 ∷ 8 ∷ 9 ∷ 12 ∷ []) status

-- a name that a call with some words saves to
abbrev pub IsSavedBy : List (List ℕ) → List ℕ → Type 0
IsSavedBy words name = (command : Command) × (command_in words ≡ Ok command) × (save_named command ≡ Some name)

-- a name that a call with some words may have put, at a status
abbrev pub MayBePut : List (List ℕ) → ℕ → List ℕ → Type 0
MayBePut words status name = (command : Command) × (command_in words ≡ Ok command) × IsPutAt command status name
