-- Dependencies between itags as a graph, and its components on some of them. An itag is given by its number.
use Rattle.std.specs.Prelude.{◌≡◌, ◌≢◌, ℕ, Bool, true, nat_lt, ◌==◌, ◌&&◌, ◌||◌, List, [], ◌∷◌, Contains, slice_index, IsTrue}
use Rattle.flu_lemmas.specs.Sorting.{in_order}
use Rattle.flu_lemmas.specs.Totals.{total}
use Rattle.flu_model.specs.declared.jobs.Program.{Program}
use Rattle.flu_model.specs.Itags.{tag_of_itag, is_dependent}

-- which itags are joined by an edge
abbrev pub Graph : Type 0
Graph = ℕ → ℕ → Bool

-- the itags of a job whose tags are dependent
abbrev pub dependencies : Program → Graph
dependencies p i j = is_dependent p (tag_of_itag p (record { 0 = i })) (tag_of_itag p (record { 0 = j }))

-- itags by rising number
abbrev pub rising : List ℕ → List ℕ
rising itags = in_order nat_lt itags

-- each is less than the next
abbrev pub is_rising : List ℕ → Bool
is_rising [] = true
is_rising (i ∷ []) = true
is_rising (i ∷ j ∷ rest) = nat_lt i j && is_rising (j ∷ rest)

-- ---- walks

-- each itag of a walk from i on is joined to the next
abbrev pub is_walk : Graph → ℕ → List ℕ → Bool
is_walk g i [] = true
is_walk g i (j ∷ walk) = g i j && is_walk g j walk

-- where a walk from i on ends
abbrev pub end_of_walk : ℕ → List ℕ → ℕ
end_of_walk i [] = i
end_of_walk i (j ∷ walk) = end_of_walk j walk

-- a walk leads from i to j over these itags alone
pub record AreConnected (g : Graph) (itags : List ℕ) (i j : ℕ) : Type 0 where
  pub walk : List ℕ
  pub joined : IsTrue (is_walk g i walk)
  pub inside : (k : ℕ) → Contains walk k → Contains itags k
  pub ends : end_of_walk i walk ≡ j

-- two of the itags are not connected, so the graph on them has at least two components
pub record IsApart (g : Graph) (itags : List ℕ) : Type 0 where
  pub one : ℕ
  pub other : ℕ
  pub one_in : Contains itags one
  pub other_in : Contains itags other
  pub apart : AreConnected g itags one other → ⊥

-- ---- components

-- a component of the graph on the itags, by rising number: some itag with all that are connected to it
pub record IsComponent (g : Graph) (itags component : List ℕ) : Type 0 where
  pub some : component ≢ []
  pub in_order : IsTrue (is_rising component)
  pub inside : (i : ℕ) → Contains component i → Contains itags i
  pub connected : (i j : ℕ) → Contains component i → Contains component j → AreConnected g itags i j
  pub closed : (i j : ℕ) → Contains component i → Contains itags j → AreConnected g itags i j → Contains component j

-- ---- rates

-- the rate of an itag, from a list by the itags' numbers
abbrev pub rate_of : List ℕ → ℕ → ℕ
rate_of rates i = slice_index rates i

-- the total rate of some itags
abbrev pub total_rate : List ℕ → List ℕ → ℕ
total_rate rates itags = total (rate_of rates) itags

abbrev pub least : List ℕ → ℕ
least [] = 0
least (i ∷ rest) = i

-- the order of components: by falling total rate, and for equal totals the one with the least itag first
abbrev pub comes_first : List ℕ → List ℕ → List ℕ → Bool
comes_first rates a b =
    nat_lt (total_rate rates b) (total_rate rates a) || (total_rate rates a == total_rate rates b && nat_lt (least a) (least b))

-- each comes before all that follow it
abbrev pub IsInTurn : (List ℕ → List ℕ → Bool) → List (List ℕ) → Type 0
IsInTurn first [] = Unit {0}
IsInTurn first (c ∷ cs) = ((d : List ℕ) → Contains cs d → IsTrue (first c d)) × IsInTurn first cs

-- all components of the graph on the itags, in their order
pub record AreComponents (g : Graph) (rates itags : List ℕ) (components : List (List ℕ)) : Type 0 where
  pub each : (c : List ℕ) → Contains components c → IsComponent g itags c
  pub every : (i : ℕ) → Contains itags i → (c : List ℕ) × Contains components c × Contains c i
  pub in_turn : IsInTurn (comes_first rates) components
