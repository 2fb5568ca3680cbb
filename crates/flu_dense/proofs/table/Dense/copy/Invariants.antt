use Rattle.std.proofs.Common.{◌≡◌, ℕ, ◌<◌, ◌/◌, length}
use Rattle.flu_dense.specs.Tables.{value_of}
use Rattle.flu_dense.proofs.table.Dense.copy.Given as goal

abbrev pub invariant-loop-row : goal.invariant-loop-row
invariant-loop-row g l = (length l.rows.items ≡ l.row-index) × ((s : ℕ) → s / 64 < l.row-index → value_of l.rows.items s ≡ value_of l.self.rows.items s)
