-- TREES: how the nodes of a plan relate to each other. Each statement holds of every list of nodes that is a tree.
use Rattle.std.specs.Prelude.{◌≡◌, ℕ, ◌<◌, ◌≤◌, true, false, ◌==◌, ◌||◌, Some, None, List, [], ◌∷◌, ◌⊎◌, length, IsTrue}
use Rattle.flu_model.specs.declared.plans.Node.{Node}
use Rattle.flu_model.specs.PlanRules.{is_tree}
use Rattle.flu_model.specs.Owners.{parent_of, path_up, is_within, are_related}
use Rattle.flu_deps.specs.Owned.{kids_at}

-- u is the parent of node v
pub record IsUnder (nodes : List Node) (u v : ℕ) : Type 0 where
  pub there : v < length nodes
  pub parent : parent_of nodes v ≡ Some u
  pub earlier : u < v

-- the children of w, the left one first
pub record AreKids (nodes : List Node) (w left right : ℕ) : Type 0 where
  pub left_under : IsUnder nodes w left
  pub right_under : IsUnder nodes w right
  pub in_order : left < right

-- CHILDREN are greater than their node, the left one is less than the right one, and the node is the parent of both
abbrev pub ChildrenAreLater : Type 0
ChildrenAreLater = (nodes : List Node) (w left right : ℕ) → IsTrue (is_tree nodes) → kids_at nodes w ≡ Some (left, right) → AreKids nodes w left right

-- v is a child of its parent
pub record HasParent (nodes : List Node) (v : ℕ) : Type 0 where
  pub parent : ℕ
  pub under : IsUnder nodes parent v
  pub kids : ℕ × ℕ
  pub are : kids_at nodes parent ≡ Some kids
  pub one : (v ≡ kids.0) ⊎ (v ≡ kids.1)

-- PARENTS: there is a root, node 0, which has no parent, and each other node has one
pub record IsRooted (nodes : List Node) : Type 0 where
  pub root : 0 < length nodes
  pub root_has_none : parent_of nodes 0 ≡ None
  pub above : (v : ℕ) → 0 < v → v < length nodes → HasParent nodes v

abbrev pub TreesAreRooted : Type 0
TreesAreRooted = (nodes : List Node) → IsTrue (is_tree nodes) → IsRooted nodes

-- PATHS: the root has no ancestors, and the ancestors of a child are its parent and the parent's ancestors
pub record HasPaths (nodes : List Node) : Type 0 where
  pub root : path_up nodes 0 ≡ 0 ∷ []
  pub child : (u v : ℕ) → IsUnder nodes u v → path_up nodes v ≡ v ∷ path_up nodes u

abbrev pub PathsGoUp : Type 0
PathsGoUp = (nodes : List Node) → IsTrue (is_tree nodes) → HasPaths nodes

-- SUBTREES: the subtree of a leaf is the leaf alone, and the subtree of another node is the node with the subtrees of its children, which share no node
pub record HasSubtrees (nodes : List Node) : Type 0 where
  pub leaf : (w v : ℕ) → v < length nodes → kids_at nodes w ≡ None → is_within nodes w v ≡ (v == w)
  pub inner : (w left right v : ℕ) → v < length nodes → kids_at nodes w ≡ Some (left, right)
      → is_within nodes w v ≡ ((v == w) || (is_within nodes left v || is_within nodes right v))
  pub apart : (w left right v : ℕ) → v < length nodes → kids_at nodes w ≡ Some (left, right) → is_within nodes left v ≡ true → is_within nodes right v ≡ false

abbrev pub SubtreesAreOfChildren : Type 0
SubtreesAreOfChildren = (nodes : List Node) → IsTrue (is_tree nodes) → HasSubtrees nodes

-- THE ORDER OF NODES: "v is w or below it" orders the nodes, with the root above all of them; what is below a node does not come before
-- it, and of two nodes above a third, one is above the other
pub record IsOrdered (nodes : List Node) : Type 0 where
  pub itself : (v : ℕ) → v < length nodes → is_within nodes v v ≡ true
  pub later : (w v : ℕ) → v < length nodes → is_within nodes w v ≡ true → w ≤ v
  pub through : (u w v : ℕ) → v < length nodes → is_within nodes w v ≡ true → is_within nodes u w ≡ true → is_within nodes u v ≡ true
  pub root : (v : ℕ) → v < length nodes → is_within nodes 0 v ≡ true
  pub line : (u w v : ℕ) → v < length nodes → is_within nodes u v ≡ true → is_within nodes w v ≡ true
      → (is_within nodes u w ≡ true) ⊎ (is_within nodes w u ≡ true)
  pub child : (w u v : ℕ) → IsUnder nodes u v → is_within nodes w v ≡ ((v == w) || is_within nodes w u)
  pub children : (w left right : ℕ) → kids_at nodes w ≡ Some (left, right) → are_related nodes left right ≡ false

abbrev pub NodesAreOrdered : Type 0
NodesAreOrdered = (nodes : List Node) → IsTrue (is_tree nodes) → IsOrdered nodes

-- neither is within the other
abbrev pub AreApart : List Node → ℕ → ℕ → Type 0
AreApart nodes a b = (is_within nodes a b ≡ false) × (is_within nodes b a ≡ false)

-- two children of a node, in either order
pub record Siblings (nodes : List Node) (w x y : ℕ) : Type 0 where
  pub first : IsUnder nodes w x
  pub second : IsUnder nodes w y
  pub differ : x ≡ y → ⊥
  pub cover : (v : ℕ) → v < length nodes → is_within nodes w v ≡ true → (v ≡ w) ⊎ ((is_within nodes x v ≡ true) ⊎ (is_within nodes y v ≡ true))

-- NODES APART: what is apart from a node, from its children and from what is below it
pub record HasNodesApart (nodes : List Node) : Type 0 where
  pub left_first : (w left right : ℕ) → kids_at nodes w ≡ Some (left, right) → Siblings nodes w left right
  pub right_first : (w left right : ℕ) → kids_at nodes w ≡ Some (left, right) → Siblings nodes w right left
  pub parent : (u w v : ℕ) → IsUnder nodes u w → v < length nodes → is_within nodes w v ≡ true → is_within nodes u v ≡ true
  pub both : (w x y v : ℕ) → IsUnder nodes w x → IsUnder nodes w y → (x ≡ y → ⊥) → v < length nodes → is_within nodes x v ≡ true
      → is_within nodes y v ≡ true → ⊥
  pub cases : (w x y v : ℕ) → Siblings nodes w x y → v < length nodes → AreApart nodes x v → AreApart nodes w v ⊎ (is_within nodes y v ≡ true)
  pub kid : (w x v : ℕ) → IsUnder nodes w x → v < length nodes → AreApart nodes w v → AreApart nodes x v
  pub sibling : (w x y v : ℕ) → Siblings nodes w x y → v < length nodes → is_within nodes y v ≡ true → AreApart nodes x v
  pub inside : (w a b : ℕ) → a < length nodes → b < length nodes → is_within nodes w a ≡ true → AreApart nodes w b → AreApart nodes a b

abbrev pub NodesAreApart : Type 0
NodesAreApart = (nodes : List Node) → IsTrue (is_tree nodes) → HasNodesApart nodes
