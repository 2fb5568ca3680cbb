-- The ways in which a batch may be run.
use Rattle.std.specs.Prelude.{⊤, IfSome}
use Rattle.flu_model.specs.declared.jobs.Program.{Program}
use Rattle.flu_deps.specs.Validated.{plan_of, IsValidFor}
use Rattle.flu_fork.specs.Tables.{AreTreeTablesOf}
use Rattle.flu_adaptive.specs.declared.ways.Planned.{Planned as PlannedNote}
use Rattle.flu_adaptive.specs.declared.ways.Way.{Way}
use Rattle.flu_adaptive.specs.declared.ways.Way.TheVariants.{InForce, Planned, Alone}

-- the plan is valid for the job, and what is kept of it for the tree is of both
pub record IsPlannedFor (p : Program) (planned : PlannedNote) : Type 0 where
  pub valid : IsValidFor p planned.valid
  pub tables : IfSome planned.tables (AreTreeTablesOf p (plan_of planned.valid).nodes)

-- if a plan is chosen, it is valid for the job
abbrev pub IsWayOf : Program → Way → Type 0
IsWayOf p InForce = ⊤
IsWayOf p (Planned planned) = IsPlannedFor p planned
IsWayOf p Alone = ⊤
