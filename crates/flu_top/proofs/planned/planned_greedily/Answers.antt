use Rattle.std.proofs.Common.{sym, ap, ◌∙◌, subst, ℕ, ◌≤◌, ◌^◌, List, length}
use Rattle.std.specs.Prelude.{EachIndex, slice_index}
use Rattle.flu_model.specs.Itags.{count_of_itags}
use Rattle.flu_top.proofs.planned.planned_greedily.Goals as goal

pub plan-requires-clause-one_each : goal.plan-requires-clause-one_each
plan-requires-clause-one_each c =
    ap length c.deref.ensures.value ∙ c.in_ok-rates.ensures.each ∙ ap count_of_itags c.program.ensures

pub plan-requires-clause-small : goal.plan-requires-clause-small
plan-requires-clause-small c =
    subst (λ (rates : List ℕ). EachIndex rates (λ k. slice_index rates k ≤ 2 ^ 40)) (sym c.deref.ensures.value) c.in_ok-rates.ensures.small
