-- What reading the sources of a job does to the files.
use Rattle.std.specs.Prelude.{◌≡◌, ℕ, ◌≤◌, List, Contains, Option}
use Rattle.std.specs.List.{filter_map}
use Rattle.flu_model.specs.Rules.{file_of_source}
use Rattle.flu_model.specs.declared.jobs.Source.{Source}
use Rattle.flu_outside.specs.Outside.{Contents, Rose, CountApart}
use Rattle.flu_outside.specs.Taking.{IsReadOut}

-- the files of the sources; a clock has none
abbrev pub files_of : List Source → List (List ℕ)
files_of sources = filter_map file_of_source sources

-- names other than these have what they had
abbrev pub LeavesOthers : List (List ℕ) → Contents → Contents → Type 0
LeavesOthers names old new = (other : List ℕ) → (Contains names other → ⊥) → new other ≡ old other

-- no count falls, and no count changes that is apart from the counts of these names
pub record CountsOfNames (left : Option Contents) (names : List (List ℕ)) (old new : List ℕ → ℕ) : Type 0 where
  pub rise : (n : List ℕ) → old n ≤ new n
  pub apart : (n : List ℕ) → ((name : List ℕ) → Contains names name → CountApart left name n) → new n ≡ old n

-- the count of one of these names rose
abbrev pub OneRose : List (List ℕ) → (List ℕ → ℕ) → (List ℕ → ℕ) → Type 0
OneRose names old new = (name : List ℕ) × Contains names name × Rose (old name) (new name)

-- nothing is left of each of these names
abbrev pub AreReadOut : List (List ℕ) → Option Contents → Type 0
AreReadOut names left = (name : List ℕ) → Contains names name → IsReadOut name left
