-- The nodes of a greedy plan: their names, predicates and numbers.
use Rattle.std.specs.Prelude.{◌≡◌, ℕ, ◌+◌, ◌++◌, Bool, Option, Some, None, List, [], ◌∷◌, map, codes, if◌then◌else◌}
use Rattle.std.specs.Fmt.{decimal}
use Rattle.std.specs.List.{range_with_len}
use Rattle.flu_model.specs.declared.events.Tag.{Tag}
use Rattle.flu_model.specs.declared.jobs.Keys.{Keys}
use Rattle.flu_model.specs.declared.jobs.Keys.TheVariants.{Alone, One}
use Rattle.flu_model.specs.declared.jobs.Program.{Program}
use Rattle.flu_model.specs.declared.plans.Pred.{Pred}
use Rattle.flu_model.specs.declared.plans.Node.{Node}
use Rattle.flu_model.specs.Itags.{count_of_itags, tag_of_itag, source_of_itag}
use Rattle.flu_model.specs.Owners.{is_keyed}
use Rattle.flu_planner.specs.Graphs.{dependencies}
use Rattle.flu_planner.specs.Greedy.{Tree, Leaf, Inner, IsGreedy}

-- all itags of a job, by rising number
abbrev pub all_itags : Program → List ℕ
all_itags p = range_with_len 0 (count_of_itags p)

-- ---- predicates

abbrev pub own_keys : Bool → ℕ → Keys
own_keys keyed key = if keyed then One key else Alone

abbrev pub pred_of_tag : Program → Tag → ℕ → Pred
pred_of_tag p t source = record { kind = Some t.kind; keys = own_keys (is_keyed p.kinds t.kind) t.key; source = Some source }

-- the predicate of an itag alone: its kind, its key if the kind is keyed, and its source
abbrev pub pred_of : Program → ℕ → Pred
pred_of p i = pred_of_tag p (tag_of_itag p (record { 0 = i })) (source_of_itag p (record { 0 = i }))

-- ---- nodes

-- `n` and the node's number
abbrev pub name_of : ℕ → List ℕ
name_of w = codes "n" ++ decimal w

-- node w with its itags and children
abbrev pub node_of : Program → ℕ → List ℕ → Option (ℕ × ℕ) → Node
node_of p w own kids = record { name = name_of w; preds = map (pred_of p) own; kids = kids }

abbrev pub size : Tree → ℕ
size (Leaf own) = 1
size (Inner own left right) = 1 + size left + size right

-- the nodes of a tree in preorder, from number w on
abbrev pub nodes_from : Program → ℕ → Tree → List Node
nodes_from p w (Leaf own) = node_of p w own None ∷ []
nodes_from p w (Inner own left right) =
    node_of p w own (Some (w + 1, w + 1 + size left)) ∷ (nodes_from p (w + 1) left ++ nodes_from p (w + 1 + size left) right)

-- the nodes are those of the greedy plan of all itags of a job with these rates, by the itags' numbers, at this depth
pub record IsGreedyPlan (p : Program) (rates : List ℕ) (depth : ℕ) (nodes : List Node) : Type 0 where
  pub tree : Tree
  pub greedy : IsGreedy (dependencies p) rates depth (all_itags p) tree
  pub nodes_of_tree : nodes ≡ nodes_from p 0 tree
