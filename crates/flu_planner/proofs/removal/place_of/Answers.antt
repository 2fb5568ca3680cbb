use Rattle.std.proofs.Common.{sym, ◌∙◌, arith}
use Rattle.flu_planner.specs.Cuts.{is_removed_first}
use Rattle.flu_planner.proofs.Putting.{place_at_some, place_at_none, place_within}
use Rattle.flu_planner.proofs.removal.place_of.Goals as goal

pub returns-in-Some-clause-place : goal.returns-in-Some-clause-place
returns-in-Some-clause-place c = place_at_some (is_removed_first c.args.rates.now c.args.i) c.args.others.now c.in-Some.place
    (sym c.first_behind.ensures ∙ c.in-Some.is)

pub returns-in-Some-clause-within : goal.returns-in-Some-clause-within
returns-in-Some-clause-within c = omega (
  arith,
  place_within (is_removed_first c.args.rates.now c.args.i) c.args.others.now,
  place_at_some
      (is_removed_first c.args.rates.now c.args.i) c.args.others.now c.in-Some.place (sym c.first_behind.ensures ∙ c.in-Some.is),
)

pub returns-in-None-clause-place : goal.returns-in-None-clause-place
returns-in-None-clause-place c = place_at_none (is_removed_first c.args.rates.now c.args.i) c.args.others.now (sym c.first_behind.ensures ∙ c.in-None.is)
