-- A list in order: each element is put after those that it is not before.
use Rattle.std.specs.Prelude.{Bool, List, [], ◌∷◌, if◌then◌else◌}

-- an element put into a list in order, after those that it is not before
abbrev pub put_in_order : {X : Type 0} → (X → X → Bool) → X → List X → List X
put_in_order before x [] = x ∷ []
put_in_order before x (y ∷ ys) = if before x y then x ∷ y ∷ ys else y ∷ put_in_order before x ys

-- the elements of a list in order
abbrev pub in_order : {X : Type 0} → (X → X → Bool) → List X → List X
in_order before [] = []
in_order before (x ∷ xs) = put_in_order before x (in_order before xs)
