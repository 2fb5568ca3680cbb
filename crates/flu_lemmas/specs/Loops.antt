-- Checks that may find a fault: the first one found is the answer.
use Rattle.std.specs.Prelude.{List, [], ◌∷◌, ◌++◌, Result, Ok, Err}

-- what follows what was found
infixl 10 ◌>>=◌
abbrev pub ◌>>=◌ : {E A B : Type 0} → Result A E → (A → Result B E) → Result B E
(Ok x) >>= g = g x
(Err e) >>= g = Err e

-- the same, whatever was found
infixl 10 ◌>>◌
abbrev pub ◌>>◌ : {E A B : Type 0} → Result A E → Result B E → Result B E
(Ok x) >> g = g
(Err e) >> g = Err e

-- step by step through a list, up to the first fault
unfoldable pub each : {E S X : Type 0} → (S → X → Result S E) → S → List X → Result S E
each step s [] = Ok s
each step s (x ∷ xs) = step s x >>= λ t. each step t xs

-- what is found of each element, in order, up to the first fault
abbrev pub found_of_each : {E X Y : Type 0} → (X → Result Y E) → List X → Result (List Y) E
found_of_each {E} {X} {Y} find xs = each (λ (done : List Y) (x : X). find x >>= λ y. Ok (done ++ y ∷ [])) [] xs
