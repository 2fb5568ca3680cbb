-- What a table holds, and where.
use Rattle.std.specs.Prelude.{◌≡◌, ◌<◌, ◌≤◌, ℕ, ◌/◌, ◌%◌, false, Option, Some, None, is_some, List, slice_get}
use Rattle.flu_dense.specs.declared.row.Row.{Row}
use Rattle.flu_dense.specs.declared.mask.Mask.{Mask}
use Rattle.flu_dense.specs.Masks.{has}
use Rattle.flu_dense.specs.Rows.{held_at}

-- what a row holds at each of its places, below 64
unfoldable pub value_in : {V : Type 0} → Row V → ℕ → Option V
value_in row k = held_at row.held row.values.items k

-- what there is at a place of a row, if there is a row
abbrev pub value_in_row : {V : Type 0} → Option (Row V) → ℕ → Option V
value_in_row None k = None
value_in_row (Some row) k = value_in row k

-- what rows of 64 slots each hold in a slot
unfoldable pub value_of : {V : Type 0} → List (Row V) → ℕ → Option V
value_of rows s = value_in_row (slice_get rows (s / 64)) (s % 64)

-- all slots that are held are below 4,096
abbrev pub HasSlotsInRange : {V : Type 0} → (ℕ → Option V) → Type 0
HasSlotsInRange m = (s : ℕ) → 4096 ≤ s → is_some (m s) ≡ false

-- no slot of a row beside those of a set is held
abbrev pub IsEmptyBeside : {V : Type 0} → Mask → (ℕ → Option V) → Type 0
IsEmptyBeside filled m = (s : ℕ) → s < 4096 → has filled (s / 64) ≡ false → m s ≡ None
