-- The limits of plans, in the order in which they are looked at.
use Rattle.std.specs.Prelude.{ℕ, Bool, nat_lt, nat_le, List, length, sum_by, Ok}
use Rattle.std.specs.List.{list_all}
use Rattle.flu_model.specs.declared.limits.What.TheVariants.{Nodes, Predicates, Depth, Key}
use Rattle.flu_model.specs.Contents.{key_count}
use Rattle.flu_text.specs.declared.written.WrittenNumber.{WrittenNumber}
use Rattle.flu_text.specs.declared.written.WrittenKeys.{WrittenKeys}
use Rattle.flu_text.specs.declared.written.WrittenKeys.TheVariants as keys
use Rattle.flu_plan.specs.declared.fault.PlanFault.TheVariants as f
use Rattle.flu_plan.specs.declared.drafts.DraftPred.{DraftPred}
use Rattle.flu_plan.specs.declared.drafts.DraftNode.{DraftNode}
use Rattle.flu_plan.specs.declared.drafts.Visit.{Visit}
use Rattle.flu_plan.specs.Faults.{Found, ◌>>◌, unless, each}
use Rattle.flu_layout.specs.Spelling.{written_value}

abbrev pub small_key : WrittenNumber → Found (Unit {0})
small_key n = unless (nat_lt (written_value n.value) key_count) (f.OverLimit Key (written_value n.value))

-- the keys of a predicate, or the first that is too great
abbrev pub small_keys : WrittenKeys → Found (Unit {0})
small_keys keys.Alone = Ok tt
small_keys (keys.One n) = small_key n
small_keys (keys.Range low high) = small_key low >> small_key high

abbrev pub keys_of_pred : Unit {0} → DraftPred → Found (Unit {0})
keys_of_pred done q = small_keys q.keys

abbrev pub keys_of_node : Unit {0} → DraftNode → Found (Unit {0})
keys_of_node done node = each keys_of_pred tt node.preds

abbrev pub keys_of_nodes : List DraftNode → Found (Unit {0})
keys_of_nodes nodes = each keys_of_node tt nodes

abbrev pub predicates : List DraftNode → ℕ
predicates nodes = sum_by (λ (node : DraftNode). length node.preds) nodes

abbrev pub are_shallow : List Visit → Bool
are_shallow order = list_all (λ (v : Visit). nat_le v.depth 6) order

-- nodes, predicates, depth, and keys in the order of the text
unfoldable pub within_limits : List Visit → List DraftNode → Found (Unit {0})
within_limits order nodes = do
  unless (nat_le (length nodes) 127) (f.OverLimit Nodes 128)
  unless (nat_le (predicates nodes) 4096) (f.OverLimit Predicates 4097)
  unless (are_shallow order) (f.OverLimit Depth 7)
  keys_of_nodes nodes
