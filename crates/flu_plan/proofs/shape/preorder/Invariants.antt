use Rattle.std.proofs.Common.{◌-◌, length, vec_len}
use Rattle.std.specs.Prelude.{reverse}
use Rattle.flu_plan.proofs.ShapeLemmas.{Walked}
use Rattle.flu_plan.proofs.shape.preorder.Given as goal

abbrev pub invariant-walk : goal.invariant-walk
invariant-walk l = Walked l.nodes l.order.items (reverse l.stack.items)

abbrev pub decreases-walk : goal.decreases-walk
decreases-walk l = length l.nodes - vec_len l.order
