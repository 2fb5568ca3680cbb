use Rattle.std.proofs.Common.{ℕ, ◌<◌}
use Rattle.flu_valid.specs.LoopSearch.{NoneOfNodes}
use Rattle.flu_valid.proofs.clashes.first_of_node.Given as goal

abbrev pub invariant-loop-b : goal.invariant-loop-b
invariant-loop-b l = (e : ℕ) → e < l.b → NoneOfNodes l.p l.plan.nodes l.a e
