-- A list ordered by a number of each element, to which elements are added late.
use Rattle.std.specs.Prelude.{ℕ, ◌+◌, Bool, true, ◌&&◌, nat_lt, nat_le, List, [], ◌∷◌, if◌then◌else◌}

-- the number of one element is less than that of another
abbrev pub is_less : {X : Type 0} → (X → ℕ) → X → X → Bool
is_less number a b = nat_lt (number a) (number b)

-- an element put into a list, before the first that is not less
abbrev pub put_late : {X : Type 0} → (X → ℕ) → X → List X → List X
put_late number x [] = x ∷ []
put_late number x (y ∷ ys) = if nat_lt (number y) (number x) then y ∷ put_late number x ys else x ∷ y ∷ ys

-- the numbers rise from `low` on
abbrev pub rises_from : {X : Type 0} → (X → ℕ) → ℕ → List X → Bool
rises_from number low [] = true
rises_from number low (x ∷ xs) = nat_le low (number x) && rises_from number (number x + 1) xs
