-- The rules that every plan keeps: its shape, its names and its limits. Each is a test, which computes.
use Rattle.std.specs.Prelude.{ℕ, ◌+◌, Bool, true, false, nat_lt, nat_le, ◌==◌, ◌&&◌, Option, Some, None, List, [], ◌∷◌, map, length, sum_by}
use Rattle.std.specs.List.{list_all}
use Rattle.flu_model.specs.declared.jobs.Keys.{Keys}
use Rattle.flu_model.specs.declared.jobs.Keys.TheVariants.{Alone, One, Range}
use Rattle.flu_model.specs.declared.plans.Pred.{Pred}
use Rattle.flu_model.specs.declared.plans.Node.{Node}
use Rattle.flu_model.specs.Contents.{key_count}
use Rattle.flu_model.specs.Rules.{are_distinct, is_same_text}

-- ---- the tree

-- the children of a node come before what else is wanted
abbrev pub with_kids : Option (ℕ × ℕ) → List ℕ → List ℕ
with_kids None wanted = wanted
with_kids (Some kids) wanted = kids.0 ∷ kids.1 ∷ wanted

-- the nodes from number w on are the wanted ones, each followed by the nodes below it
abbrev pub are_subtrees : ℕ → List ℕ → List Node → Bool
are_subtrees w [] [] = true
are_subtrees w [] (node ∷ rest) = false
are_subtrees w (v ∷ wanted) [] = false
are_subtrees w (v ∷ wanted) (node ∷ rest) = (v == w) && are_subtrees (w + 1) (with_kids node.kids wanted) rest

-- the nodes are one binary tree in preorder, with node 0 as the root
abbrev pub is_tree : List Node → Bool
is_tree nodes = are_subtrees 0 (0 ∷ []) nodes

-- ---- the depth

-- the depths of two children, if there are some, before those of what else is wanted
abbrev pub with_depths : ℕ → Option (ℕ × ℕ) → List ℕ → List ℕ
with_depths d None wanted = wanted
with_depths d (Some kids) wanted = (d + 1) ∷ (d + 1) ∷ wanted

-- the depth of each node, where the nodes are those below some at these depths, in preorder
abbrev pub depths_below : List ℕ → List Node → List ℕ
depths_below [] nodes = []
depths_below (d ∷ wanted) [] = []
depths_below (d ∷ wanted) (node ∷ rest) = d ∷ depths_below (with_depths d node.kids wanted) rest

-- the depth of each node of a tree in preorder; that of the root is 0
abbrev pub depths : List Node → List ℕ
depths nodes = depths_below (0 ∷ []) nodes

-- no node is deeper than 6
abbrev pub is_shallow : List Node → Bool
is_shallow nodes = list_all (λ d. nat_le d 6) (depths nodes)

-- ---- names, predicates and keys

abbrev pub nodes_have_own_names : List Node → Bool
nodes_have_own_names nodes = are_distinct is_same_text (map (λ (node : Node). node.name) nodes)

-- how many predicates the nodes have together
abbrev pub count_of_predicates : List Node → ℕ
count_of_predicates nodes = sum_by (λ (node : Node). length node.preds) nodes

abbrev pub are_small_keys : Keys → Bool
are_small_keys Alone = true
are_small_keys (One k) = nat_lt k key_count
are_small_keys (Range lo hi) = nat_lt lo key_count && nat_lt hi key_count

-- the keys of predicates are from 0 to 65,535, be their ranges empty or not
abbrev pub have_small_keys : List Node → Bool
have_small_keys nodes = list_all (λ (node : Node). list_all (λ (pred : Pred). are_small_keys pred.keys) node.preds) nodes
