-- Observed rates are small.
use Rattle.std.proofs.Common.{◌≤◌, ◌^◌, ℕ, zero, suc, List, [], ◌∷◌, arith}
use Rattle.std.specs.Prelude.{slice_index}
use Rattle.flu_adaptive.specs.Observed.{observed_rates}

pub rates_small : (counts : List ℕ) (k : ℕ) → slice_index (observed_rates counts) k ≤ 2 ^ 40
rates_small [] k = omega arith
rates_small (count ∷ counts) zero = omega arith
rates_small (count ∷ counts) (suc k) = rates_small counts k
