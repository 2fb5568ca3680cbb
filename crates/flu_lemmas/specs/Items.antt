-- Items put one before another, and signs that describe the front of a list.
use Rattle.std.specs.Prelude.{◌≡◌, List, [], ◌∷◌}

-- items before a rest, with something between each two: after each item but the last comes `none`, and after the last what is given
abbrev pub items_before : {X B R : Type 0} → (X → B → R → R) → B → (R → R) → X → List X → B → R → R
items_before item none between x [] behind rest = item x behind rest
items_before item none between x (y ∷ ys) behind rest = item x none (between (items_before item none between y ys behind rest))

-- items before a rest, one after another
abbrev pub lines_before : {X R : Type 0} → (X → R → R) → List X → R → R
lines_before line [] rest = rest
lines_before line (x ∷ xs) rest = line x (lines_before line xs rest)

-- two lists, pair by pair
abbrev pub Pairs : {X W : Type 0} → (X → W → Type 0) → List X → List W → Type 0
Pairs R [] [] = Unit {0}
Pairs R [] (w ∷ ws) = ⊥
Pairs R (x ∷ xs) [] = ⊥
Pairs R (x ∷ xs) (w ∷ ws) = R x w × Pairs R xs ws

-- the list begins with what these signs describe, one by one, and this is what follows
abbrev pub Begins : {S T : Type 0} → (S → T → Type 0) → List S → List T → List T → Type 0
Begins is [] ts rest = ts ≡ rest
Begins {S} {T} is (s ∷ signs) ts rest = (t : T) × (more : List T) × (ts ≡ t ∷ more) × is s t × Begins is signs more rest
