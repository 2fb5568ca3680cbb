use Rattle.std.proofs.Common.{◌^◌, ◌≤◌, subst, sym, ◌∙◌, ℕ, List}
use Rattle.std.specs.Prelude.{slice_index}
use Rattle.flu_adaptive.proofs.Rates.{rates_small}
use Rattle.flu_adaptive.proofs.observing.greedy_plan.Goals as goal

pub plan-requires-clause-small : goal.plan-requires-clause-small
plan-requires-clause-small c k lt =
    subst (λ (rates : List ℕ). slice_index rates k ≤ 2 ^ 40) (sym (c.as_slice.ensures.value ∙ c.in_ok-rates.ensures)) (rates_small c.args.counts.now k)
