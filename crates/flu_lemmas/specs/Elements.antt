-- What holds for each element of a list with its index.
use Rattle.std.specs.Prelude.{◌≡◌, ℕ, List, Some, slice_get}

abbrev pub AtEach : {X : Type 0} → (ℕ → X → Type 0) → List X → Type 0
AtEach {X} R xs = (j : ℕ) (x : X) → slice_get xs j ≡ Some x → R j x
