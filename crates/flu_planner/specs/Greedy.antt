-- GREEDY: which itags the nodes of a greedy plan own.
use Rattle.std.specs.Prelude.{◌≡◌, ℕ, zero, suc, ◌≤◌, List, [], length, ◌⊎◌}
use Rattle.flu_planner.specs.Graphs.{Graph, AreComponents, rising}
use Rattle.flu_planner.specs.Cuts.{IsLeastCut, IsWhole, removed, remaining}
use Rattle.flu_planner.specs.Groups.{grouped}

-- the itags that the nodes of a plan own, by rising number
pub data Tree : Type 0 where
  Leaf : (own : List ℕ) → Tree
  Inner : (own : List ℕ) → (left right : Tree) → Tree

-- itags are divided: the fewest in the order of removal are the node's own, and the components of the others are grouped for the two children
pub record IsParting (g : Graph) (rates itags own left right : List ℕ) : Type 0 where
  pub count : ℕ
  pub least_cut : IsLeastCut g rates itags count
  pub own_removed : own ≡ removed rates itags count
  pub components : List (List ℕ)
  pub are : AreComponents g rates (remaining rates itags count) components
  pub left_group : left ≡ rising (grouped rates [] [] components).0
  pub right_group : right ≡ rising (grouped rates [] [] components).1

-- a node with these itags stays a leaf
abbrev pub IsLeaf : Graph → List ℕ → ℕ → List ℕ → Type 0
IsLeaf g rates depth itags = (depth ≡ 0) ⊎ ((length itags ≤ 1) ⊎ IsWhole g rates itags)

-- the tree is the greedy one for these itags, given by rising number, at this depth
abbrev pub IsGreedy : Graph → List ℕ → ℕ → List ℕ → Tree → Type 0
IsGreedy g rates depth itags (Leaf own) = (own ≡ itags) × IsLeaf g rates depth itags
IsGreedy g rates zero itags (Inner own left right) = ⊥
IsGreedy g rates (suc depth) itags (Inner own left right) =
    (lefts : List ℕ) × (rights : List ℕ) × IsParting g rates itags own lefts rights × IsGreedy g rates depth lefts left × IsGreedy g rates depth rights right
