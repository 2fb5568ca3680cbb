-- What refuses a command, in order: a fault of its job's text, a conflict of that job, a defect of its plan, what keeps a run from
-- starting, a defect of a source, a fault of its trace.
use Rattle.std.specs.Prelude.{◌≡◌, ◌≢◌, ◌<◌, ℕ, List, [], length, Option, Some, ◌⊎◌, IsTrue}
use Rattle.flu_outside.specs.Outside.{Contents, WhereTold}
use Rattle.flu_model.specs.declared.jobs.Program.{Program}
use Rattle.flu_model.specs.declared.plans.Node.{Node}
use Rattle.flu_model.specs.Modes.{IsAccepted}
use Rattle.flu_model.specs.Validity.{IsValid}
use Rattle.flu_outside.specs.Taking.{bytes_left}
use Rattle.flu_deps.specs.Checking.{program_of}
use Rattle.flu_parse.specs.declared.faults.JobFault.{JobFault}
use Rattle.flu_parse.specs.declared.faults.JobFault.TheVariants as jobs
use Rattle.flu_check.specs.declared.CheckFault.{CheckFault}
use Rattle.flu_check.specs.Faults.{IsFirstCheckFault}
use Rattle.flu_plan.specs.declared.fault.PlanFault.{PlanFault}
use Rattle.flu_plan.specs.declared.fault.PlanFault.TheVariants as plans
use Rattle.flu_valid.specs.declared.faults.Invalid.{Invalid}
use Rattle.flu_valid.specs.Faults.{IsFirstPlanFault}
use Rattle.flu_streams.specs.declared.faults.SourceFault.{SourceFault}
use Rattle.flu_lines.specs.declared.refusals.PlanDefect.{PlanDefect}
use Rattle.flu_lines.specs.declared.refusals.PlanDefect.TheVariants as defects
use Rattle.flu_trace.specs.declared.faults.ReplayFault.{ReplayFault}
use Rattle.flu_trace.specs.Replaying.{Ending, ending_of}
use Rattle.flu_words.specs.Words.{Command}
use Rattle.flu_lines.specs.declared.refusals.SaveDefect.{SaveDefect}
use Rattle.flu_lines.specs.declared.refusals.SaveDefect.TheVariants as saves
use Rattle.flu_command.specs.Behind.{WantedJob, Named, HasJob, HasPlan, fault_behind, plan_behind}
use Rattle.flu_command.specs.Openings.{Opening}
use Rattle.flu_command.specs.TextFaults.{IsFirstJobFault, IsFirstTextFault}
use Rattle.flu_command.specs.Reading.{Reading, Unread, Whole, InRounds, MeetsDefect, lines_behind}
use Rattle.flu_command.specs.Wants.{job_wanted, plan_named, save_named, resume_named, trace_named, asks_accepted, how_read, reads_sources, texts_named}
use Rattle.flu_command.specs.Replaying.{ReplaysTo}
use Rattle.flu_command.specs.Starting.{StartsFrom, CanStart, IsSameName, HasBadCheckpoint, Leaves}
use Rattle.flu_command.specs.Done.{HasPlanAsked, IsGood}

-- the bytes under the job's name are the text of this program, and were read to their end
pub record IsJobRead (job : List ℕ) (p : Program) (old new : Contents) : Type 0 where
  pub has : HasJob (Named job) old p
  pub end : new job ≡ Some []

-- ---- the job's text
-- the job's text is under a name, and the bytes there have this first fault
pub record HasJobFault (job : WantedJob) (old new : Option Contents) (fault : JobFault) : Type 0 where
  pub name : List ℕ
  pub named : job ≡ Named name
  pub is_fault : fault ≢ jobs.NoMemory
  pub first : WhereTold old new (λ left _. IsFirstJobFault (bytes_left left name) fault)

-- ---- the job
-- the fault's job is not accepted, and the fault is its first conflict of independent tags
pub record IsConflict (fault : CheckFault) : Type 0 where
  pub refused : ¬ IsAccepted fault.program
  pub first : IsFirstCheckFault fault.program fault.a fault.b fault.cell

-- the command asks for an accepted job, whose text is under a name, the bytes there are the text of the fault's job, which is not
-- accepted, and the fault is its first conflict
pub record HasConflict (command : Command) (old new : Option Contents) (fault : CheckFault) : Type 0 where
  pub asked : IsTrue (asks_accepted command)
  pub name : List ℕ
  pub named : job_wanted command ≡ Named name
  pub conflict : IsConflict fault
  pub job : WhereTold old new (IsJobRead name fault.program)

-- ---- the plan
-- the command names a plan, its job is this program, which is accepted, and the plan's text has this first fault for it
pub record HasPlanFault (command : Command) (old new : Option Contents) (fault : PlanFault) : Type 0 where
  pub plan : List ℕ
  pub program : Program
  pub asked : plan_named command ≡ Some plan
  pub accepted : IsAccepted program
  pub is_fault : fault ≢ plans.NoMemory
  pub first : WhereTold old new (λ left _. HasJob (job_wanted command) left program
      × IsFirstTextFault program (plan_behind (job_wanted command) plan left) fault)

-- the plan is not valid for the job, and this is the first reason why
pub record IsInvalid (p : Program) (nodes : List Node) (why : Invalid) : Type 0 where
  pub refused : ¬ IsValid p nodes
  pub first : IsFirstPlanFault p nodes why

-- the command names a plan, its job is this program, which is accepted, and the bytes under the plan's name are the text of these
-- nodes, which are not valid for it: this is the first reason why
pub record HasInvalidPlan (command : Command) (old new : Option Contents) (p : Program) (nodes : List Node) (why : Invalid) : Type 0 where
  pub plan : List ℕ
  pub asked : plan_named command ≡ Some plan
  pub accepted : IsAccepted p
  pub invalid : IsInvalid p nodes why
  pub text : WhereTold old new (λ left _. HasJob (job_wanted command) left p × HasPlan (job_wanted command) plan left p nodes)

-- what is wrong with the command's plan
abbrev pub HasPlanDefect : Command → Option Contents → Option Contents → PlanDefect → Type 0
HasPlanDefect command old new (defects.Text fault text) = HasPlanFault command old new fault
HasPlanDefect command old new (defects.Invalid checked fault) = HasInvalidPlan command old new (program_of checked) fault.plan.nodes fault.why

-- ---- the start
-- the command names what it saves to or is resumed from, its job is this program, which is accepted, a plan that it names is valid for
-- it, and this is true of them
pub record HasStartDefect (command : Command) (old new : Option Contents) (p : Program) (Is : Contents → Type 0) : Type 0 where
  pub name : List ℕ
  pub named : (save_named command ≡ Some name) ⊎ (resume_named command ≡ Some name)
  pub accepted : IsTrue (asks_accepted command) → IsAccepted p
  pub first : WhereTold old new (λ left _. HasJob (job_wanted command) left p × HasPlanAsked command left p × Is left)

-- what keeps a run from starting: a name that it saves to or is resumed from is the name of a source's file; or the checkpoint that it
-- is resumed from has this first fault
abbrev pub HasSaveDefect : Command → Option Contents → Option Contents → SaveDefect → Type 0
HasSaveDefect command old new (saves.SameName checked number) = HasStartDefect command old new (program_of checked)
    (λ left. IsSameName command (program_of checked) number)
HasSaveDefect command old new (saves.Checkpoint fault) = (p : Program) × HasStartDefect command old new p (λ left. HasBadCheckpoint command left p fault)

-- ---- the sources
-- the next round meets a defect, once this was written; what was put before it is left
pub record IsMetInRounds (command : Command) (left now : Contents) (p : Program) (text : List ℕ) (fault : SourceFault) : Type 0 where
  pub opening : Opening
  pub starts : StartsFrom command left p opening
  pub put : Option (List ℕ)
  pub met : MeetsDefect p opening (lines_behind (texts_named command) left p) text put fault
  pub leaves : Leaves command put left now

-- a defect refuses the sources that are read after the command's texts, once this was written: it is the first defect of all sources,
-- and in rounds the one of the earliest round that meets any
abbrev pub IsMet : Reading → Command → Contents → Contents → Program → List ℕ → SourceFault → Type 0
IsMet Unread command left now p text fault = ⊥
IsMet Whole command left now p text fault = fault_behind (texts_named command) left p ≡ Some fault
IsMet InRounds command left now p text fault = IsMetInRounds command left now p text fault

-- the command reads sources, its job is this program, which is accepted if the command asks for that, a plan that the command names
-- is valid for it, it can start, and this defect of its sources refuses it, once this was written
pub record HasSourceFault (command : Command) (old new : Option Contents) (p : Program) (fault : SourceFault) (text : List ℕ) : Type 0 where
  pub asked : IsTrue (reads_sources command)
  pub accepted : IsTrue (asks_accepted command) → IsAccepted p
  pub source : fault.source < length p.sources
  pub first : WhereTold old new (λ left now. HasJob (job_wanted command) left p × HasPlanAsked command left p × CanStart command left p
      × IsMet (how_read command) command left now p text fault)

-- ---- the trace
-- the command names a trace, nothing refuses it before that, and the trace has the ending that this fault states
pub record HasTraceFault (command : Command) (old new : Option Contents) (fault : ReplayFault) : Type 0 where
  pub trace : List ℕ
  pub named : trace_named command ≡ Some trace
  pub p : Program
  pub accepted : IsTrue (asks_accepted command) → IsAccepted p
  pub ending : Ending
  pub tells : ending_of fault ≡ Some ending
  pub first : WhereTold old new (λ left _. IsGood command left p × ReplaysTo command trace left p ending)
