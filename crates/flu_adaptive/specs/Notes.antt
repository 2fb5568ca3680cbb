-- What contracts see of an adaptive engine.
use Rattle.std.specs.Prelude.{◌≡◌, ℕ, Bool, List, length}
use Rattle.flu_deps.specs.declared.checked.Checked.{Checked}
use Rattle.flu_deps.specs.declared.valid.Valid.{Valid}
use Rattle.flu_deps.specs.Checking.{program_of}
use Rattle.flu_deps.specs.Validated.{IsValidFor}
use Rattle.flu_model.specs.Itags.{count_of_itags}

-- its job, the plan in force, how many events of each itag it has run, if it adapts, and whether it adapts: whether the plan follows
-- those counts
pub record AdaptiveNote : Type 0 where
  pub checked : Checked
  pub valid : Valid
  pub counts : List ℕ
  pub adapts : Bool

-- the plan in force is valid for the job, and there is a count for each of the job's itags
pub record HasItsPlan (a : AdaptiveNote) : Type 0 where
  pub valid : IsValidFor (program_of a.checked) a.valid
  pub one_each : length a.counts ≡ count_of_itags (program_of a.checked)
