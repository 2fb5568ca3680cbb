-- What the search for a cut and the planning of a subtree find.
use Rattle.std.specs.Prelude.{◌≡◌, ℕ, ◌+◌, ◌<◌, ◌^◌, List, length, drop, IsTrue}
use Rattle.flu_model.specs.declared.jobs.Program.{Program}
use Rattle.flu_model.specs.declared.plans.Node.{Node}
use Rattle.flu_planner.specs.Graphs.{Graph, IsApart, rising, is_rising}
use Rattle.flu_planner.specs.Greedy.{Tree, IsGreedy, IsParting}
use Rattle.flu_planner.specs.Plans.{nodes_from}
use Rattle.flu_lemmas.specs.Counting.{times}

-- when this many itags in an order are removed, the rest has at least two components, and when fewer are removed, it does not
pub record IsFirstApart (g : Graph) (order : List ℕ) (count : ℕ) : Type 0 where
  pub apart : IsApart g (rising (drop count order))
  pub least : (fewer : ℕ) → fewer < count → IsApart g (rising (drop fewer order)) → ⊥

-- for no number of removals does the rest have at least two components
abbrev pub IsNeverApart : Graph → List ℕ → Type 0
IsNeverApart g order = (count : ℕ) → IsApart g (rising (drop count order)) → ⊥

-- a division in which each itag is on one side, once
pub record IsPartingOnce (g : Graph) (rates itags own left right : List ℕ) : Type 0 where
  pub parting : IsParting g rates itags own left right
  pub once : (k : ℕ) → times k own + times k left + times k right ≡ times k itags
  pub left_in_order : IsTrue (is_rising left)
  pub right_in_order : IsTrue (is_rising right)

-- the nodes of the greedy tree of some itags, from a number on
pub record IsSubtree (p : Program) (g : Graph) (rates : List ℕ) (depth number : ℕ) (itags : List ℕ) (nodes : List Node) : Type 0 where
  pub tree : Tree
  pub greedy : IsGreedy g rates depth itags tree
  pub nodes_of_tree : nodes ≡ nodes_from p number tree
  pub few : length nodes < 2 ^ (depth + 1)
