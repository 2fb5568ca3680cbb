-- What tables of parts hold.
use Rattle.std.specs.Prelude.{ℕ, ◌/◌, ◌%◌, Option, Some, None}
use Rattle.std.specs.Ordering.{nat_cmp}
use Rattle.std.specs.BTreeMap.{BTreeMap, get}
use Rattle.flu_dense.specs.declared.table.Dense.{Dense}
use Rattle.flu_dense.specs.Tables.{value_of}

-- what there is in a slot of a table, if there is a table
abbrev pub value_in_table : {V : Type 0} → Option (Dense V) → ℕ → Option V
value_in_table None s = None
value_in_table (Some d) s = value_of d.rows.items s

-- what tables of parts of 4,096 numbers each hold for a number: what the table of its part holds in its slot
unfoldable pub value_among : {V : Type 0} → BTreeMap ℕ (Dense V) → ℕ → Option V
value_among parts n = value_in_table (get nat_cmp parts (n / 4096)) (n % 4096)
