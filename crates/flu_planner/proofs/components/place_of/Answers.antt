use Rattle.std.proofs.Common.{sym, ◌∙◌, arith}
use Rattle.flu_planner.specs.LoopReaching.{has_greater_total}
use Rattle.flu_planner.proofs.Putting.{place_at_some, place_at_none, place_within}
use Rattle.flu_planner.proofs.components.place_of.Goals as goal

pub returns-in-Some-clause-place : goal.returns-in-Some-clause-place
returns-in-Some-clause-place c = place_at_some (has_greater_total c.args.rates.now c.args.component.now) c.args.components.now c.in-Some.place
    (sym (rw c.total_rate.ensures at c.first_less.ensures) ∙ c.in-Some.is)

pub returns-in-Some-clause-within : goal.returns-in-Some-clause-within
returns-in-Some-clause-within c = omega (
  arith,
  place_within (has_greater_total c.args.rates.now c.args.component.now) c.args.components.now,
  place_at_some
      (has_greater_total c.args.rates.now c.args.component.now) c.args.components.now c.in-Some.place
      (sym (rw c.total_rate.ensures at c.first_less.ensures) ∙ c.in-Some.is),
)

pub returns-in-None-clause-place : goal.returns-in-None-clause-place
returns-in-None-clause-place c = place_at_none (has_greater_total c.args.rates.now c.args.component.now) c.args.components.now
    (sym (rw c.total_rate.ensures at c.first_less.ensures) ∙ c.in-None.is)
