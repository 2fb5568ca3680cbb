-- What reading a plan and checking its validity give, and what refuses it.
use Rattle.std.specs.Prelude.{◌≡◌, ◌≢◌, ℕ, List, [], Option, Some, ⊤}
use Rattle.flu_outside.specs.Outside.{Contents, WhereTold, Rose}
use Rattle.flu_model.specs.declared.jobs.Program.{Program}
use Rattle.flu_model.specs.declared.plans.Node.{Node}
use Rattle.flu_deps.specs.declared.checked.Checked.{Checked}
use Rattle.flu_deps.specs.Checking.{program_of}
use Rattle.flu_outside.specs.Taking.{bytes_left, TookAtMost}
use Rattle.flu_plan.specs.declared.fault.PlanFault.{PlanFault}
use Rattle.flu_plan.specs.declared.fault.PlanFault.TheVariants as faults
use Rattle.flu_grammar.specs.Plans.{IsPlanText}
use Rattle.flu_command.specs.TextFaults.{IsFirstTextFault}
use Rattle.flu_lines.specs.declared.refusals.PlanDefect.TheVariants as defects
use Rattle.flu_lines.specs.declared.refusals.Refusal.{Refusal}
use Rattle.flu_lines.specs.declared.refusals.Refusal.TheVariants as refusals
use Rattle.flu_command.specs.Causes.{IsInvalid}

-- the bytes under a name are the text of this plan of the job, and were read to their end
pub record IsPlanRead (p : Program) (plan : List ℕ) (nodes : List Node) (old new : Contents) : Type 0 where
  pub has : IsPlanText p (bytes_left old plan) nodes
  pub end : new plan ≡ Some []

-- the bytes under a name have this fault as the text of a plan of the job
pub record HasTextFault (p : Program) (plan : List ℕ) (old new : Option Contents) (fault : PlanFault) : Type 0 where
  pub is_fault : fault ≢ faults.NoMemory
  pub first : WhereTold old new (λ left _. IsFirstTextFault p (bytes_left left plan) fault)

-- why a plan was not read
abbrev pub IsTextRefusal : Program → List ℕ → Option Contents → Option Contents → (List ℕ → ℕ) → (List ℕ → ℕ) → Refusal → Type 0
IsTextRefusal p plan old new before now (refusals.BadWords bad) = ⊥
IsTextRefusal p plan old new before now (refusals.JobFault fault text) = ⊥
IsTextRefusal p plan old new before now (refusals.Conflict fault) = ⊥
IsTextRefusal p plan old new before now (refusals.PlanDefect (defects.Text fault text)) = HasTextFault p plan old new fault
IsTextRefusal p plan old new before now (refusals.PlanDefect (defects.Invalid checked fault)) = ⊥
IsTextRefusal p plan old new before now (refusals.SourceFault q fault) = ⊥
IsTextRefusal p plan old new before now refusals.ReadFault = Rose (before plan) (now plan) × WhereTold old new (TookAtMost plan 1048576)
IsTextRefusal p plan old new before now refusals.WriteFault = ⊥
IsTextRefusal p plan old new before now refusals.NoMemory = ⊤
IsTextRefusal p plan old new before now (refusals.SaveDefect defect) = ⊥
IsTextRefusal p plan old new before now refusals.PutFault = ⊥
IsTextRefusal p plan old new before now (refusals.TraceFault fault) = ⊥

-- why a plan that was read is refused
abbrev pub IsValidRefusal : Checked → List Node → Refusal → Type 0
IsValidRefusal checked nodes (refusals.BadWords bad) = ⊥
IsValidRefusal checked nodes (refusals.JobFault fault text) = ⊥
IsValidRefusal checked nodes (refusals.Conflict fault) = ⊥
IsValidRefusal checked nodes (refusals.PlanDefect (defects.Text fault text)) = ⊥
IsValidRefusal checked nodes (refusals.PlanDefect (defects.Invalid other fault)) =
    (other ≡ checked) × (fault.plan.nodes ≡ nodes) × IsInvalid (program_of checked) nodes fault.why
IsValidRefusal checked nodes (refusals.SourceFault q fault) = ⊥
IsValidRefusal checked nodes refusals.ReadFault = ⊥
IsValidRefusal checked nodes refusals.WriteFault = ⊥
IsValidRefusal checked nodes refusals.NoMemory = ⊤
IsValidRefusal checked nodes (refusals.SaveDefect defect) = ⊥
IsValidRefusal checked nodes refusals.PutFault = ⊥
IsValidRefusal checked nodes (refusals.TraceFault fault) = ⊥
