use Rattle.std.proofs.Common.{◌≡◌, drop}
use Rattle.flu_plan.specs.Faults.{each}
use Rattle.flu_plan.specs.Limits.{keys_of_node}
use Rattle.flu_plan.proofs.limits.keys_of_nodes.Given as goal

abbrev pub invariant-loop-node : goal.invariant-loop-node
invariant-loop-node l = each keys_of_node tt (drop l.node-index l.nodes) ≡ each keys_of_node tt l.nodes
