use Rattle.std.proofs.Common.{◌≡◌, drop}
use Rattle.flu_plan.specs.Faults.{each}
use Rattle.flu_plan.specs.Shape.{below, all_below}
use Rattle.flu_plan.proofs.shape.all_below.Given as goal

abbrev pub invariant-loop-v : goal.invariant-loop-v
invariant-loop-v l = each (below l.text l.order) l.v (drop l.v l.nodes) ≡ all_below l.text l.order l.nodes
