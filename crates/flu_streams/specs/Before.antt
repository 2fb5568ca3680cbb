-- The elements of a list, each with those before it, and the first one for which a function has a value.
use Rattle.std.specs.Prelude.{List, [], ◌∷◌, ◌++◌, Option, Some, None}

-- each element, with the list of those before it
abbrev pub with_before : {X : Type 0} → List X → List X → List (List X × X)
with_before before [] = []
with_before before (x ∷ xs) = (before, x) ∷ with_before (before ++ x ∷ []) xs

abbrev pub each_with_before : {X : Type 0} → List X → List (List X × X)
each_with_before xs = with_before [] xs

-- what is there, or else another
abbrev pub or_else : {X : Type 0} → Option X → Option X → Option X
or_else None other = other
or_else (Some x) other = Some x

-- what f gives for the first element for which it gives anything
abbrev pub first_some : {X Y : Type 0} → (X → Option Y) → List X → Option Y
first_some f [] = None
first_some f (x ∷ xs) = or_else (f x) (first_some f xs)
