-- The plan of a `Valid`, its owners, and for which job it is valid.
use Rattle.std.specs.Prelude.{◌≡◌, ℕ, ◌<◌, Some, slice_index}
use Rattle.flu_model.specs.declared.events.Itag.{Itag}
use Rattle.flu_model.specs.declared.jobs.Program.{Program}
use Rattle.flu_model.specs.declared.plans.Plan.{Plan}
use Rattle.flu_model.specs.Itags.{count_of_itags}
use Rattle.flu_model.specs.Owners.{owner_of}
use Rattle.flu_model.specs.Validity.{IsValid}
use Rattle.flu_deps.specs.declared.valid.Valid.{Valid}

abbrev pub plan_of : Valid → Plan
plan_of v = v.plan

-- the node that owns an itag of the job
abbrev pub owner_in : Valid → Itag → ℕ
owner_in v i = slice_index v.owners i.0

-- the plan is valid for a job, and the owners are the owners of the job's itags in it
pub record IsValidFor (p : Program) (v : Valid) : Type 0 where
  pub valid : IsValid p (plan_of v).nodes
  pub owner : (i : Itag) → i.0 < count_of_itags p → owner_of p (plan_of v).nodes i ≡ Some (owner_in v i)
