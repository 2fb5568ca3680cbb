-- What was taken of named bytes.
use Rattle.std.specs.Prelude.{◌≡◌, ℕ, List, ◌++◌, Some}
use Rattle.flu_outside.specs.Outside.{Contents}

-- bytes were taken only of names of one sort
abbrev pub TookOnly : (List ℕ → Type 0) → Contents → Contents → Type 0
TookOnly IsRead old now = (name : List ℕ) → ¬ IsRead name → now name ≡ old name

-- of each name but those of one sort, bytes were taken from the front, if any
abbrev pub TookFrontsBut : (List ℕ → Type 0) → Contents → Contents → Type 0
TookFrontsBut IsPut old now = (name rest : List ℕ) → ¬ IsPut name → now name ≡ Some rest → (front : List ℕ) × (old name ≡ Some (front ++ rest))
