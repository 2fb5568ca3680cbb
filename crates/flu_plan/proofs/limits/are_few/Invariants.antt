use Rattle.std.proofs.Common.{◌≡◌, ◌+◌, drop}
use Rattle.flu_plan.specs.Limits.{predicates}
use Rattle.flu_plan.proofs.limits.are_few.Given as goal

abbrev pub invariant-loop-node : goal.invariant-loop-node
invariant-loop-node l = 4096 + predicates (drop l.node-index l.nodes) ≡ l.left + predicates l.nodes
