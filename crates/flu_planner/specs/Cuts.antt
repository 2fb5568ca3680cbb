-- Which itags of a graph are removed, so that the others fall apart.
use Rattle.std.specs.Prelude.{ℕ, ◌<◌, Bool, nat_lt, ◌==◌, ◌&&◌, ◌||◌, List, take, drop}
use Rattle.flu_lemmas.specs.Sorting.{in_order}
use Rattle.flu_planner.specs.Graphs.{Graph, rate_of, IsApart, rising}

-- the order of removal: by rising rate, and for equal rates by rising number
abbrev pub is_removed_first : List ℕ → ℕ → ℕ → Bool
is_removed_first rates i j = nat_lt (rate_of rates i) (rate_of rates j) || (rate_of rates i == rate_of rates j && nat_lt i j)

abbrev pub removal_order : List ℕ → List ℕ → List ℕ
removal_order rates itags = in_order (is_removed_first rates) itags

-- the first itags in the order of removal, this many, and the others, both by rising number
abbrev pub removed : List ℕ → List ℕ → ℕ → List ℕ
removed rates itags count = rising (take count (removal_order rates itags))

abbrev pub remaining : List ℕ → List ℕ → ℕ → List ℕ
remaining rates itags count = rising (drop count (removal_order rates itags))

-- this many removals leave at least two components, and no fewer do
pub record IsLeastCut (g : Graph) (rates itags : List ℕ) (count : ℕ) : Type 0 where
  pub apart : IsApart g (remaining rates itags count)
  pub least : (fewer : ℕ) → fewer < count → IsApart g (remaining rates itags fewer) → ⊥

-- no number of removals leaves at least two components
abbrev pub IsWhole : Graph → List ℕ → List ℕ → Type 0
IsWhole g rates itags = (count : ℕ) → IsApart g (remaining rates itags count) → ⊥
