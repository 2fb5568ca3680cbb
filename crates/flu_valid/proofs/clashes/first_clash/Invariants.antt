use Rattle.std.proofs.Common.{ℕ, ◌<◌}
use Rattle.flu_valid.specs.LoopSearch.{NoneOfNode}
use Rattle.flu_valid.proofs.clashes.first_clash.Given as goal

abbrev pub invariant-loop-a : goal.invariant-loop-a
invariant-loop-a l = (d : ℕ) → d < l.a → NoneOfNode l.p l.plan.nodes d
