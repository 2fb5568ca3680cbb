-- What a table and a map of tables hold.
use Rattle.std.specs.Prelude.{ℕ, Option}
use Rattle.flu_dense.specs.declared.table.Dense.{Dense}
use Rattle.flu_dense.specs.declared.sparse.Sparse.{Sparse}
use Rattle.flu_dense.specs.Tables.{value_of}
use Rattle.flu_dense.specs.Parts.{value_among}

-- what a table holds in each slot
abbrev pub value_at : {V : Type 0} → Dense V → ℕ → Option V
value_at d = value_of d.rows.items

-- what a map of tables holds for each number
abbrev pub value_for : {V : Type 0} → Sparse V → ℕ → Option V
value_for d = value_among d.parts
