-- Sets of numbers below 64.
use Rattle.std.specs.Prelude.{ℕ, Bool, ◌==◌}
use Rattle.std.specs.Int.{bit_at}
use Rattle.flu_dense.specs.declared.mask.Mask.{Mask}

-- the set has the number
unfoldable pub has : Mask → ℕ → Bool
has m k = bit_at m.bits k == 1
