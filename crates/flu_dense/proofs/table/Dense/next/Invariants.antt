use Rattle.std.proofs.Common.{◌≡◌, ℕ, ◌<◌, ◌≤◌, ◌-◌, None}
use Rattle.flu_dense.specs.Holding.{value_at}
use Rattle.flu_dense.proofs.table.Dense.next.Given as goal

abbrev pub invariant-loop-at : goal.invariant-loop-at
invariant-loop-at g l = (l.from ≤ l.at) × (l.at ≤ 4096) × ((k : ℕ) → l.from ≤ k → k < l.at → value_at l.self k ≡ None)

abbrev pub decreases-loop-at : goal.decreases-loop-at
decreases-loop-at g l = 4096 - l.at
