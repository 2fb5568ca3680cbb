-- Whether the nodes of a written plan are one tree: no node is a child twice, the root is none, and all are below the root.
use Rattle.std.specs.Prelude.{ℕ, zero, suc, ◌+◌, Bool, not, ◌==◌, List, [], ◌∷◌, ◌++◌, length, Option, Some, None, slice_get, Ok}
use Rattle.std.specs.List.{list_any}
use Rattle.flu_plan.specs.declared.fault.PlanFault.TheVariants as f
use Rattle.flu_plan.specs.declared.drafts.DraftNode.{DraftNode}
use Rattle.flu_plan.specs.declared.drafts.Visit.{Visit}
use Rattle.flu_plan.specs.Faults.{Found, ◌>>=◌, ◌>>◌, unless, each}
use Rattle.flu_layout.specs.Spelling.{name_of}

abbrev pub name_of_node : List ℕ → Option DraftNode → List ℕ
name_of_node text None = []
name_of_node text (Some node) = name_of text node.name

-- the name of the node at a place
abbrev pub name_at : List ℕ → List DraftNode → ℕ → List ℕ
name_at text nodes v = name_of_node text (slice_get nodes v)

-- ---- children

-- a node that is no child so far
unfoldable pub with_child : List ℕ → List DraftNode → List ℕ → ℕ → Found (List ℕ)
with_child text nodes children v = do
  unless (not (list_any (λ u. v == u) children)) (f.NotATree (name_at text nodes v))
  Ok (children ++ v ∷ [])

abbrev pub with_kids_of : List ℕ → List DraftNode → List ℕ → Option (ℕ × ℕ) → Found (List ℕ)
with_kids_of text nodes children None = Ok children
with_kids_of text nodes children (Some kids) = with_child text nodes children kids.0 >>= λ more. with_child text nodes more kids.1

unfoldable pub with_kids : List ℕ → List DraftNode → List ℕ → DraftNode → Found (List ℕ)
with_kids text nodes children node = with_kids_of text nodes children node.kids

-- the root and all children, or the first child, in the order of the text, that was one before or is the root
abbrev pub children_of : List ℕ → List DraftNode → Found (List ℕ)
children_of text nodes = each (with_kids text nodes) (0 ∷ []) nodes

-- ---- the nodes below the root

abbrev pub kids_of_node : Option DraftNode → Option (ℕ × ℕ)
kids_of_node None = None
kids_of_node (Some node) = node.kids

abbrev pub kids_at : List DraftNode → ℕ → Option (ℕ × ℕ)
kids_at nodes v = kids_of_node (slice_get nodes v)

abbrev pub visit : ℕ → ℕ → Visit
visit v d = record { node = v; depth = d }

-- the children of a node at a depth come before what else is to be visited
abbrev pub with_visits : ℕ → Option (ℕ × ℕ) → List Visit → List Visit
with_visits d None wanted = wanted
with_visits d (Some kids) wanted = visit kids.0 (d + 1) ∷ visit kids.1 (d + 1) ∷ wanted

-- the wanted nodes, each followed by those below it, at most this many
unfoldable pub walk : List DraftNode → ℕ → List Visit → List Visit
walk nodes zero wanted = []
walk nodes (suc n) [] = []
walk nodes (suc n) (v ∷ wanted) = v ∷ walk nodes n (with_visits v.depth (kids_at nodes v.node) wanted)

-- the nodes below the root, in preorder, with their depths; in a tree there are no more than nodes
abbrev pub preorder : List DraftNode → List Visit
preorder nodes = walk nodes (length nodes) (visit 0 0 ∷ [])

abbrev pub is_met : List Visit → ℕ → Bool
is_met order v = list_any (λ (x : Visit). v == x.node) order

-- the node at this place is met below the root
unfoldable pub below : List ℕ → List Visit → ℕ → DraftNode → Found ℕ
below text order v node = do
  unless (is_met order v) (f.NotATree (name_of text node.name))
  Ok (v + 1)

-- all nodes are, or else the first that is not
abbrev pub all_below : List ℕ → List Visit → List DraftNode → Found ℕ
all_below text order nodes = each (below text order) 0 nodes
