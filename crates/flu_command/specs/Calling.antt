-- The status that a command and its files call for.
use Rattle.std.specs.Prelude.{◌≡◌, ◌≢◌, ℕ, List, Option, Some, IsTrue}
use Rattle.flu_outside.specs.Outside.{Contents}
use Rattle.flu_outside.specs.Taking.{bytes_left}
use Rattle.flu_model.specs.declared.jobs.Program.{Program}
use Rattle.flu_model.specs.Modes.{IsAccepted}
use Rattle.flu_parse.specs.declared.faults.JobFault.{JobFault}
use Rattle.flu_check.specs.declared.CheckFault.{CheckFault}
use Rattle.flu_streams.specs.declared.faults.SourceFault.{SourceFault}
use Rattle.flu_lines.specs.declared.refusals.PlanDefect.{PlanDefect}
use Rattle.flu_lines.specs.declared.refusals.SaveDefect.{SaveDefect}
use Rattle.flu_trace.specs.declared.faults.ReplayFault.{ReplayFault}
use Rattle.flu_trace.specs.Replaying.{Ending, Complete}
use Rattle.flu_words.specs.Words.{Command}
use Rattle.flu_command.specs.Behind.{Named, HasJob}
use Rattle.flu_command.specs.Reading.{HasDefect}
use Rattle.flu_command.specs.TextFaults.{IsFirstJobFault}
use Rattle.flu_command.specs.Wants.{want, texts_named}
use Rattle.flu_command.specs.Starting.{CanStart}
use Rattle.flu_command.specs.Replaying.{ReplaysTo, HasCompleteTrace}
use Rattle.flu_command.specs.Done.{HasValidPlan, HasPlanAsked, IsGood, IsDone}
use Rattle.flu_command.specs.Causes.{HasJobFault, HasConflict, HasPlanDefect, HasSaveDefect, HasSourceFault, HasTraceFault}

-- the command reads a trace, nothing refuses the command before that, and the trace is not complete
pub record HasFaultyTrace (command : Command) (left : Contents) : Type 0 where
  pub p : Program
  pub good : IsGood command left p
  pub trace : List ℕ
  pub named : (want command).trace ≡ Some trace
  pub ending : Ending
  pub ends : ReplaysTo command trace left p ending
  pub faulty : ending ≢ Complete

-- the status that a command and the files call for if nothing fails
pub data CallsFor (command : Command) (left : Contents) (status : ℕ) : Type 0 where
  Good : status ≡ 0 → (p : Program) → IsGood command left p → HasCompleteTrace command left p → CallsFor command left status
  FaultyJob : status ≡ 3 → (name : List ℕ) (fault : JobFault) → (want command).job ≡ Named name
      → IsFirstJobFault (bytes_left left name) fault → CallsFor command left status
  NotAccepted : status ≡ 4 → (p : Program) → IsTrue (want command).accepted → HasJob (want command).job left p
      → ¬ IsAccepted p → CallsFor command left status
  NoValidPlan : status ≡ 5 → (p : Program) (plan : List ℕ) → (want command).plan ≡ Some plan
      → HasJob (want command).job left p → IsAccepted p
      → ¬ HasValidPlan (want command).job plan left p → CallsFor command left status
  FaultyStart : status ≡ 11 → (p : Program) → HasJob (want command).job left p → (IsTrue (want command).accepted → IsAccepted p)
      → HasPlanAsked command left p → ¬ CanStart command left p → CallsFor command left status
  FaultySource : status ≡ 6 → (p : Program) → HasJob (want command).job left p → (IsTrue (want command).accepted → IsAccepted p)
      → HasPlanAsked command left p → CanStart command left p → HasDefect (want command).sources (texts_named command) left p → CallsFor command left status
  FaultyTrace : status ≡ 13 → HasFaultyTrace command left → CallsFor command left status

-- a command and the files call for one status at most: what refuses a command comes in an order, and the first decides
abbrev pub CallsForOneStatus : Type 0
CallsForOneStatus = (command : Command) (left : Contents) (a b : ℕ) → CallsFor command left a → CallsFor command left b → a ≡ b

-- ---- what ends a command is what its files call for, if it is known what they held
-- all was done
abbrev pub DoneIsCalledFor : Type 0
DoneIsCalledFor =
    (command : Command) (left now : Contents) (had has : Option (List ℕ)) (line : List ℕ) → IsDone command had has line left now
    → CallsFor command left 0

-- a refusal: the one of the job's text, of the job, of the plan, of the start, of a source, of the trace
abbrev pub JobFaultIsCalledFor : Type 0
JobFaultIsCalledFor =
    (command : Command) (left : Contents) (old new : Option Contents) (fault : JobFault) → old ≡ Some left → HasJobFault (want command).job old new fault
    → CallsFor command left 3

abbrev pub ConflictIsCalledFor : Type 0
ConflictIsCalledFor =
    (command : Command) (left : Contents) (old new : Option Contents) (fault : CheckFault) → old ≡ Some left → HasConflict command old new fault
    → CallsFor command left 4

abbrev pub PlanDefectIsCalledFor : Type 0
PlanDefectIsCalledFor =
    (command : Command) (left : Contents) (old new : Option Contents) (defect : PlanDefect) → old ≡ Some left → HasPlanDefect command old new defect
    → CallsFor command left 5

abbrev pub SaveDefectIsCalledFor : Type 0
SaveDefectIsCalledFor =
    (command : Command) (left : Contents) (old new : Option Contents) (defect : SaveDefect) → old ≡ Some left → HasSaveDefect command old new defect
    → CallsFor command left 11

abbrev pub SourceFaultIsCalledFor : Type 0
SourceFaultIsCalledFor =
    (command : Command) (left : Contents) (old new : Option Contents) (p : Program) (fault : SourceFault) (text : List ℕ) → old ≡ Some left
    → HasSourceFault command old new p fault text → CallsFor command left 6

abbrev pub TraceFaultIsCalledFor : Type 0
TraceFaultIsCalledFor =
    (command : Command) (left : Contents) (old new : Option Contents) (fault : ReplayFault) → old ≡ Some left → HasTraceFault command old new fault
    → CallsFor command left 13
