use Rattle.std.proofs.Common.{◌≡◌, ◌+◌, ◌≤◌, ◌-◌, length}
use Rattle.flu_dense.specs.Holding.{value_at}
use Rattle.flu_dense.proofs.table.Dense.reach.Given as goal

abbrev pub invariant-loop-self : goal.invariant-loop-self
invariant-loop-self g l = (value_at l.self ≡ value_at l.initial.self) × (length l.initial.self.rows.items ≤ length l.self.rows.items)

abbrev pub decreases-loop-self : goal.decreases-loop-self
decreases-loop-self g l = l.row + 1 - length l.self.rows.items
