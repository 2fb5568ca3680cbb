-- What holds of each element of a mapped list, and whence it is.
use Rattle.std.proofs.Common.{◌≡◌, ℕ, zero, suc, Some, List, [], ◌∷◌, map, refl}
use Rattle.std.specs.Prelude.{slice_get}
use Rattle.std.specs.List.{AllByRecursion}

pub all_of_mapped : {X Y : Type 0} (P : Y → Type 0) (f : X → Y) (xs : List X) → AllByRecursion P (map f xs) → AllByRecursion (λ x. P (f x)) xs
all_of_mapped P f [] all = tt
all_of_mapped P f (x ∷ xs) all = (all.0, all_of_mapped P f xs all.1)

pub from_mapped : {X Y : Type 0} (f : X → Y) (xs : List X) (i : ℕ) (y : Y) → slice_get (map f xs) i ≡ Some y
    → (x : X) × (slice_get xs i ≡ Some x) × (y ≡ f x)
from_mapped f [] i y at = absurd cc
from_mapped f (x ∷ xs) zero y at = (x, refl, cc)
from_mapped f (x ∷ xs) (suc i) y at = from_mapped f xs i y at
