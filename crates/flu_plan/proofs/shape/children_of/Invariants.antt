use Rattle.std.proofs.Common.{◌≡◌, drop}
use Rattle.flu_plan.specs.Faults.{each}
use Rattle.flu_plan.specs.Shape.{with_kids, children_of}
use Rattle.flu_plan.proofs.shape.children_of.Given as goal

abbrev pub invariant-loop-node : goal.invariant-loop-node
invariant-loop-node l = each (with_kids l.text l.nodes) l.children.keys (drop l.node-index l.nodes) ≡ children_of l.text l.nodes
