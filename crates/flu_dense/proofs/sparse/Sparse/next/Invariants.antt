use Rattle.std.proofs.Common.{◌≡◌, ℕ, ◌<◌, ◌≤◌, ◌-◌, None}
use Rattle.flu_dense.specs.Holding.{value_for}
use Rattle.flu_dense.proofs.sparse.Sparse.next.Given as goal

abbrev pub invariant-loop-at : goal.invariant-loop-at
invariant-loop-at g l = (l.from ≤ l.at) × ((k : ℕ) → l.from ≤ k → k < l.at → value_for l.self k ≡ None)

abbrev pub decreases-loop-at : goal.decreases-loop-at
decreases-loop-at g l = l.end - l.at
