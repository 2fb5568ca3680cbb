-- What stays of files of which some names are closed.
use Rattle.std.specs.Prelude.{◌≡◌, ℕ, ◌≤◌, Bool, true, false, List, Option, option_map}
use Rattle.flu_lemmas.specs.Named.{IsThere}
use Rattle.flu_outside.specs.Outside.{Contents}

-- what a name has left, if that is known
abbrev pub left_at : Option Contents → List ℕ → Option (Option (List ℕ))
left_at left name = option_map (λ contents. contents name) left

-- each closed name has what it had
abbrev pub ClosedStay : (List ℕ → Bool) → Option Contents → Option Contents → Type 0
ClosedStay is_closed old new = (name : List ℕ) → is_closed name ≡ true → left_at new name ≡ left_at old name

-- no count falls
abbrev pub CountsRise : (List ℕ → ℕ) → (List ℕ → ℕ) → Type 0
CountsRise old new = (name : List ℕ) → old name ≤ new name

-- a closed name has the count that it had, if it is there
abbrev pub ClosedCountsStay : (List ℕ → Bool) → Option Contents → (List ℕ → ℕ) → (List ℕ → ℕ) → Type 0
ClosedCountsStay is_closed left old new = (name : List ℕ) → is_closed name ≡ true → IsThere left name → new name ≡ old name

-- or if each name that is not closed has the count that it had
abbrev pub ClosedCountsFollow : (List ℕ → Bool) → (List ℕ → ℕ) → (List ℕ → ℕ) → Type 0
ClosedCountsFollow is_closed old new =
    ((name : List ℕ) → is_closed name ≡ false → new name ≡ old name) → (name : List ℕ) → is_closed name ≡ true → new name ≡ old name
