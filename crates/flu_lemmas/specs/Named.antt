-- Bytes by name, which are taken from the front of each name's bytes, and a count by name.
use Rattle.std.specs.Prelude.{◌≡◌, ◌≢◌, ℕ, ◌≤◌, List, [], ◌++◌, is_some, unwrap_or, Option, Some, None, IsSome, IfSome, ◌⊎◌}

-- the bytes that each name has left, if the name is there
abbrev pub Contents : Type 0
Contents = List ℕ → Option (List ℕ)

-- the bytes that a name has left; none if it is not there
abbrev pub bytes_left : Contents → List ℕ → List ℕ
bytes_left left name = unwrap_or (left name) []

-- some bytes were taken from the front of one name's bytes, and no other name changed
pub record TakesFrom (name : List ℕ) (old new : Contents) : Type 0 where
  pub front : (got : List ℕ) × (bytes_left old name ≡ got ++ bytes_left new name)
  pub there : is_some (new name) ≡ is_some (old name)
  pub others : (other : List ℕ) → other ≢ name → new other ≡ old other

-- from the front of each name's bytes some were taken, if any
abbrev pub TookFronts : Contents → Contents → Type 0
TookFronts old new = (name rest : List ℕ) → new name ≡ Some rest → (front : List ℕ) × (old name ≡ Some (front ++ rest))

-- the bytes that are held, followed by those that the name has left, are as they were
abbrev pub KeepsBytes : List ℕ → List ℕ → List ℕ → Contents → Contents → Type 0
KeepsBytes name held now old new = now ++ bytes_left new name ≡ held ++ bytes_left old name

-- if the contents are known, a name is there, and nothing is left of it
abbrev pub IsReadOut : List ℕ → Option Contents → Type 0
IsReadOut name left = IfSome left (λ contents. contents name ≡ Some [])

-- the contents are known, and the name is there
abbrev pub IsThere : Option Contents → List ℕ → Type 0
IsThere None name = ⊥
IsThere (Some left) name = IsSome (left name)

-- two names have counts of their own: they differ, and one of them is there
abbrev pub CountApart : Option Contents → List ℕ → List ℕ → Type 0
CountApart left a b = (a ≢ b) × (IsThere left a ⊎ IsThere left b)

-- no count falls, and none changes that is apart from the count of one name
pub record CountsOf (left : Option Contents) (name : List ℕ) (old new : List ℕ → ℕ) : Type 0 where
  pub rise : (n : List ℕ) → old n ≤ new n
  pub apart : (n : List ℕ) → CountApart left name n → new n ≡ old n

-- each name has the same count
abbrev pub SameCounts : (List ℕ → ℕ) → (List ℕ → ℕ) → Type 0
SameCounts old new = (name : List ℕ) → new name ≡ old name
