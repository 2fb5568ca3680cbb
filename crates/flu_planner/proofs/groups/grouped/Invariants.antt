use Rattle.std.proofs.Common.{◌≡◌, [], drop}
use Rattle.flu_planner.specs.Groups.{grouped}
use Rattle.flu_planner.proofs.groups.grouped.Given as goal

abbrev pub invariant-loop-component : goal.invariant-loop-component
invariant-loop-component l = grouped l.rates l.left.items l.right.items (drop l.component-index l.components) ≡ grouped l.rates [] [] l.components
