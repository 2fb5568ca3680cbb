-- THE OUTCOME of a call of a part command: what its status says about the words, about what the files held and hold, and about what out and err got.
use Rattle.std.specs.Prelude.{◌≡◌, ◌≢◌, ℕ, List, Option, Ok, Err}
use Rattle.flu_outside.specs.Outside.{Contents, WhereTold, Rose, SameCounts}
use Rattle.flu_outside.specs.Taking.{TookFronts}
use Rattle.flu_outside.specs.Writing.{AppendsAll, AppendsPart}
use Rattle.flu_model.specs.declared.jobs.Program.{Program}
use Rattle.flu_model.specs.declared.plans.Node.{Node}
use Rattle.flu_parse.specs.declared.faults.JobFault.{JobFault}
use Rattle.flu_check.specs.declared.CheckFault.{CheckFault}
use Rattle.flu_streams.specs.declared.faults.SourceFault.{SourceFault}
use Rattle.flu_lines.specs.declared.statuses.Status.{Status}
use Rattle.flu_lines.specs.declared.statuses.Status.TheVariants as statuses
use Rattle.flu_lines.specs.Statuses.{code}
use Rattle.flu_lines.specs.declared.refusals.PlanDefect.{PlanDefect}
use Rattle.flu_lines.specs.declared.parts.NodeDefect.{NodeDefect}
use Rattle.flu_lines.specs.declared.parts.FileDefect.{FileDefect}
use Rattle.flu_lines.specs.Names.{source_name}
use Rattle.flu_lines.specs.Lines.{bad_words_line, job_fault_line, conflict_line, plan_defect_line, source_fault_line}
use Rattle.flu_lines.specs.Lines.{read_fault_line, write_fault_line, no_memory_line}
use Rattle.flu_lines.specs.PartLines.{node_defect_line, file_defect_line}
use Rattle.flu_words.specs.Parts.{PartCommand, part_in}
use Rattle.flu_command.specs.Outside.{Outside, Faults}
use Rattle.flu_command.specs.Taking.{TookOnly}
use Rattle.flu_command.specs.Wants.{job_wanted}
use Rattle.flu_command.specs.Causes.{HasJobFault, HasConflict, HasPlanDefect}
use Rattle.flu_top.specs.Outcome.{Said, Refused}
use Rattle.flu_parts.specs.Planned.{texts_of}
use Rattle.flu_parts.specs.Written.{IsWritten}
use Rattle.flu_parts.specs.Causes.{HasNodeDefect, HasFileDefect, HasSourceDefect, HasFailedRead}
use Rattle.flu_parts.specs.ReadNames.{IsReadByPart}

-- the plan is refused as `valid JOB PLAN` refuses it; or the node that the command names is, for a plan that is valid
pub data IsPlanRefused (command : PartCommand) (old new : Outside) : Type 0 where
  Plan : (defect : PlanDefect) → HasPlanDefect (texts_of command) old.left new.left defect → Refused old new (plan_defect_line defect)
      → IsPlanRefused command old new
  OfNode : (p : Program) (nodes : List Node) (name : List ℕ) (why : NodeDefect) → HasNodeDefect command old.left new.left p nodes name why
      → Refused old new (node_defect_line p nodes name why) → IsPlanRefused command old new

-- ---- the cases, one for each status: `old` is the outside before the call, and `new` after it
abbrev pub Ended : PartCommand → Outside → Outside → Status → Type 0
-- nothing refuses the command, all that it reads was read to its end, out got all that it writes, and err nothing
Ended command old new statuses.Done = (text : List ℕ) × WhereTold old.left new.left (IsWritten command text) × WhereTold old.out new.out (AppendsAll text)
    × (new.err ≡ old.err)
-- no command is refused for its words
Ended command old new statuses.BadWords = ⊥
-- the bytes of the command's job have this first fault
Ended command old new statuses.JobFault = (fault : JobFault) × HasJobFault (job_wanted (texts_of command)) old.left new.left fault
    × Refused old new (job_fault_line fault)
-- its job has this first conflict
Ended command old new statuses.Conflict = (fault : CheckFault) × HasConflict (texts_of command) old.left new.left fault × Refused old new (conflict_line fault)
-- its plan has this first defect for its job, which is accepted; or its node has one
Ended command old new statuses.PlanDefect = IsPlanRefused command old new
-- this is the first defect of the sources that it reads
Ended command old new statuses.SourceFault = (p : Program) × (fault : SourceFault) × HasSourceDefect command old.left new.left p fault
    × Refused old new (source_fault_line (source_name p fault.source) fault.row fault.why)
-- a file that it reads failed
Ended command old new statuses.ReadFault = Refused old new read_fault_line
-- nothing refuses it, and all that it reads was read; out failed, and got a proper prefix of what it writes
Ended command old new statuses.WriteFault = (text : List ℕ) × WhereTold old.left new.left (IsWritten command text)
    × WhereTold old.out new.out (AppendsPart text) × Said old new write_fault_line
-- memory ran out, and out got nothing
Ended command old new statuses.NoMemory = Refused old new no_memory_line
-- a part command saves nothing, puts nothing and reads no trace
Ended command old new statuses.SaveDefect = ⊥
Ended command old new statuses.PutFault = ⊥
Ended command old new statuses.TraceFault = ⊥
-- the first of the files that it names that has a defect has this one
Ended command old new statuses.PartialDefect = (p : Program) × (nodes : List Node) × (name : List ℕ) × (why : FileDefect)
    × HasFileDefect command old.left new.left p nodes name why × Refused old new (file_defect_line p nodes name why)

-- the words are a part command, which ended as its status says; or they are none: the one at this place does not fit, and no file was read
pub data PartOutcome (words : List (List ℕ)) (old new : Outside) (number : ℕ) : Type 0 where
  OfCommand : (status : Status) → number ≡ code status → (command : PartCommand) → part_in words ≡ Ok command → Ended command old new status
      → PartOutcome words old new number
  OfNone : number ≡ code statuses.BadWords → (at : ℕ) → part_in words ≡ Err at → new.left ≡ old.left → Refused old new (bad_words_line at)
      → PartOutcome words old new number

-- ---- what was read
-- bytes were taken from the front of names, and of no name that the call does not read
pub record PartReadOnly (words : List (List ℕ)) (old new : Option Contents) : Type 0 where
  pub fronts : WhereTold old new TookFronts
  pub only : WhereTold old new (TookOnly (IsReadByPart words old))

-- ---- the faults of the outside
-- status 7 comes only if the count of a name that the call reads rose, and status 8 only if the count of out rose; and at every other status no such count
-- of any name has changed. Nothing is put.
pub record PartFaultsFirst (words : List (List ℕ)) (left : Option Contents) (before now : Faults) (status : ℕ) : Type 0 where
  pub read : status ≡ 7 → (name : List ℕ) × IsReadByPart words left name × Rose (before.takes name) (now.takes name)
  pub write : status ≡ 8 → Rose before.out now.out
  pub same_takes : status ≢ 7 → SameCounts before.takes now.takes
  pub same_out : status ≢ 8 → now.out ≡ before.out
  pub same_puts : SameCounts before.puts now.puts

-- a read fault hides nothing: status 7 comes only if no fault was met in what was taken
pub record PartHidesNothing (words : List (List ℕ)) (old new : Option Contents) (before now : Faults) (status : ℕ) : Type 0 where
  pub failed : status ≡ 7 → (command : PartCommand) × (part_in words ≡ Ok command) × HasFailedRead command old new before.takes now.takes
