-- What is known of the outside: its bytes and its faults, and what a call does to them.
use Rattle.std.specs.Prelude.{◌≡◌, ◌≢◌, ℕ, ◌+◌, ◌-◌, ◌^◌, ◌≤◌, List, [], ◌++◌, length, take, drop, min, Option, Some}
pub use Rattle.flu_lemmas.specs.Told.{WhereTold}
pub use Rattle.flu_lemmas.specs.Named.{Contents, IsThere, CountApart, SameCounts}

-- a count of faults has risen, or is at the greatest number that it can have
abbrev pub Rose : ℕ → ℕ → Type 0
Rose before now = min (before + 1) (2 ^ 64 - 1) ≤ now

-- n bytes went from the front of a name's bytes into the front of a buffer, none only if the name had none,
-- and other names are as they were
pub record Takes (old new : Contents) (name : List ℕ) (n : ℕ) (buffer : List ℕ) : Type 0 where
  pub bytes : List ℕ
  pub were : old name ≡ Some bytes
  pub enough : n ≤ length bytes
  pub given : take n buffer ≡ take n bytes
  pub left : new name ≡ Some (drop n bytes)
  pub end : n ≡ 0 → bytes ≡ []
  pub others : (other : List ℕ) → other ≢ name → new other ≡ old other

-- names other than this one have the same bytes left
abbrev pub OthersStay : List ℕ → Contents → Contents → Type 0
OthersStay name old new = (other : List ℕ) → other ≢ name → new other ≡ old other

-- a name has these bytes, and other names are as they were
pub record Puts (name bytes : List ℕ) (old new : Contents) : Type 0 where
  pub here : new name ≡ Some bytes
  pub others : OthersStay name old new

-- each name has the same bytes left
abbrev pub SameLeft : Contents → Contents → Type 0
SameLeft old new = (name : List ℕ) → new name ≡ old name

-- all names that are not there have one and the same count
abbrev pub ShareOneCount : Option Contents → (List ℕ → ℕ) → Type 0
ShareOneCount left count = (a b : List ℕ) → ¬ IsThere left a → ¬ IsThere left b → count a ≡ count b

-- the first n bytes were appended to what was there
abbrev pub Appends : ℕ → List ℕ → List ℕ → List ℕ → Type 0
Appends n bytes old new = new ≡ old ++ take n bytes
