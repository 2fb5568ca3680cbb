-- What the check of a job gives, and what refuses it.
use Rattle.std.specs.Prelude.{◌≡◌, ℕ, List, ⊤}
use Rattle.flu_model.specs.declared.jobs.Program.{Program}
use Rattle.flu_model.specs.Erasure.{job_of}
use Rattle.flu_model.specs.Modes.{IsAccepted}
use Rattle.flu_parse.specs.Printing.{normal_form}
use Rattle.flu_lines.specs.declared.refusals.Refusal.{Refusal}
use Rattle.flu_lines.specs.declared.refusals.Refusal.TheVariants as refusals
use Rattle.flu_command.specs.Causes.{IsConflict}

-- the program is accepted, and this is its job's normal form
pub record IsChecked (p : Program) (text : List ℕ) : Type 0 where
  pub accepted : IsAccepted p
  pub is : text ≡ normal_form (job_of p)

-- why there is no normal form of a program
abbrev pub IsCheckRefusal : Program → Refusal → Type 0
IsCheckRefusal p (refusals.BadWords bad) = ⊥
IsCheckRefusal p (refusals.JobFault fault text) = ⊥
IsCheckRefusal p (refusals.Conflict fault) = (fault.program ≡ p) × IsConflict fault
IsCheckRefusal p (refusals.PlanDefect defect) = ⊥
IsCheckRefusal p (refusals.SourceFault q fault) = ⊥
IsCheckRefusal p refusals.ReadFault = ⊥
IsCheckRefusal p refusals.WriteFault = ⊥
IsCheckRefusal p refusals.NoMemory = ⊤
IsCheckRefusal p (refusals.SaveDefect defect) = ⊥
IsCheckRefusal p refusals.PutFault = ⊥
IsCheckRefusal p (refusals.TraceFault fault) = ⊥
