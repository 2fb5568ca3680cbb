-- A run that a seed draws, in progress.
use Rattle.std.specs.Prelude.{◌≡◌, ◌+◌, ◌^◌, ◌<◌, ◌≤◌, false, List, Option, option_map, IfSome, Vec}
use Rattle.flu_fork.specs.declared.content.Content.{Content}
use Rattle.flu_net.specs.declared.steps.Step.{Step}
use Rattle.flu_net.specs.Measure.{most_steps, steps_left}
use Rattle.flu_live.specs.declared.simulating.Drawing.{Drawing}
use Rattle.flu_live.specs.Counting.{steps_in}
use Rattle.flu_live.specs.Seeded.{Reaches}

-- the steps that are kept, if they are kept
abbrev pub kept_in : {A : Type 0} → Option (Vec Step A) → Option (List Step)
kept_in kept = option_map (λ v. v.items) kept

-- what the run has led to, and that there is room for the steps to come
pub record IsOnItsWay (k : Content) (d : Drawing) : Type 0 where
  pub case : d.net.case ≡ k
  pub gone : d.net.gone ≡ false
  pub done : List Step
  pub run : Reaches k d.seed d.net done d.last d.steps d.mark
  pub kept : IfSome (kept_in d.kept) (λ steps. steps ≡ done)
  pub small : d.last < 2 ^ 31
  pub room : steps_in d.steps + steps_left d.net ≤ most_steps k
  pub few : most_steps k < 2 ^ 128
