-- The plan that the nodes of a text are, in preorder.
use Rattle.std.specs.Prelude.{ℕ, ◌==◌, List, [], ◌∷◌, map, Option, Some, None, slice_get}
use Rattle.std.specs.List.{flat_map, position_or_len}
use Rattle.flu_model.specs.declared.jobs.Keys.{Keys}
use Rattle.flu_model.specs.declared.jobs.Keys.TheVariants as plain
use Rattle.flu_model.specs.declared.plans.Pred.{Pred}
use Rattle.flu_model.specs.declared.plans.Node.{Node}
use Rattle.flu_text.specs.declared.written.WrittenKeys.{WrittenKeys}
use Rattle.flu_text.specs.declared.written.WrittenKeys.TheVariants as keys
use Rattle.flu_plan.specs.declared.drafts.DraftPred.{DraftPred}
use Rattle.flu_plan.specs.declared.drafts.DraftNode.{DraftNode}
use Rattle.flu_plan.specs.declared.drafts.Visit.{Visit}
use Rattle.flu_layout.specs.Spelling.{name_of, written_value}

abbrev pub planned_keys : WrittenKeys → Keys
planned_keys keys.Alone = plain.Alone
planned_keys (keys.One n) = plain.One (written_value n.value)
planned_keys (keys.Range low high) = plain.Range (written_value low.value) (written_value high.value)

abbrev pub planned_pred : DraftPred → Pred
planned_pred q = record { kind = q.kind; keys = planned_keys q.keys; source = q.source }

-- the number of a node in preorder
abbrev pub number_of : List Visit → ℕ → ℕ
number_of order v = position_or_len (λ (x : Visit). v == x.node) order

abbrev pub planned_kids : List Visit → Option (ℕ × ℕ) → Option (ℕ × ℕ)
planned_kids order None = None
planned_kids order (Some kids) = Some (number_of order kids.0, number_of order kids.1)

abbrev pub planned_node : List ℕ → List Visit → DraftNode → Node
planned_node text order node = record { name = name_of text node.name; preds = map planned_pred node.preds; kids = planned_kids order node.kids }

abbrev pub planned_found : List ℕ → List Visit → Option DraftNode → List Node
planned_found text order None = []
planned_found text order (Some node) = planned_node text order node ∷ []

abbrev pub planned_at : List ℕ → List Visit → List DraftNode → Visit → List Node
planned_at text order nodes v = planned_found text order (slice_get nodes v.node)

-- the nodes in preorder
abbrev pub planned : List ℕ → List Visit → List DraftNode → List Node
planned text order nodes = flat_map (planned_at text order nodes) order
