-- What a row holds.
use Rattle.std.specs.Prelude.{◌≡◌, ◌<◌, ℕ, true, Option, None, List, length, slice_get, if◌then◌else◌}
use Rattle.flu_dense.specs.declared.mask.Mask.{Mask}
use Rattle.flu_dense.specs.Masks.{has}

-- the value at a place that is held
abbrev pub held_at : {V : Type 0} → Mask → List V → ℕ → Option V
held_at held values k = if has held k then slice_get values k else None

-- each place that is held has a value
abbrev pub HasValues : {V : Type 0} → Mask → List V → Type 0
HasValues held values = (k : ℕ) → k < 64 → has held k ≡ true → k < length values
