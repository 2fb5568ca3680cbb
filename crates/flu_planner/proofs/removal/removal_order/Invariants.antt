use Rattle.std.proofs.Common.{◌≡◌, ◌≤◌, length, drop}
use Rattle.flu_lemmas.specs.Sorting.{in_order}
use Rattle.flu_planner.specs.Cuts.{is_removed_first}
use Rattle.flu_planner.proofs.removal.removal_order.Given as goal

abbrev pub invariant-loop-at : goal.invariant-loop-at
invariant-loop-at l = record {
  within : l.at ≤ length l.itags;
  order : l.order.items ≡ in_order (is_removed_first l.rates) (drop l.at l.itags);
}

abbrev pub decreases-loop-at : goal.decreases-loop-at
decreases-loop-at l = l.at
