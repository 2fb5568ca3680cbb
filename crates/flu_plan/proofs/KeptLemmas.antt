-- What is read as a plan keeps the rules of plans.
use Rattle.std.proofs.Common.{◌≡◌, ℕ, zero, suc, ◌+◌, ◌<◌, ◌≤◌, Bool, true, List, [], ◌∷◌, ◌++◌, map, length, take, get_or, Option, Some, None, Ok, refl, sym}
use Rattle.std.proofs.Common.{ap, subst, ◌∙◌, arith}
use Rattle.std.specs.Prelude.{nat_le, nat_lt, slice_get, sum_by}
use Rattle.std.specs.List.{list_all, flat_map}
use Rattle.std.proofs.lemmas.List.{append-nil, length-map, length-append, length_push, take_all}
use Rattle.std.proofs.lemmas.List.Sums.{sum_by-append, sum_by-cons, sum_by_more}
use Rattle.std.proofs.lemmas.List.Folds.{list_all-append, list_all-map}
use Rattle.std.proofs.lemmas.Option.{slice_get-get_or}
use Rattle.flu_lemmas.proofs.Tests.{both}
use Rattle.flu_model.specs.declared.limits.What.TheVariants.{Bytes, Key}
use Rattle.flu_model.specs.declared.plans.Pred.{Pred}
use Rattle.flu_model.specs.declared.plans.Node.{Node}
use Rattle.flu_model.specs.Contents.{key_count}
use Rattle.flu_model.specs.Rules.{are_distinct, is_same_text}
use Rattle.flu_model.specs.PlanRules.{are_subtrees, count_of_predicates, are_small_keys}
use Rattle.flu_text.specs.declared.written.WrittenSpan.{WrittenSpan}
use Rattle.flu_text.specs.declared.written.WrittenKeys.{WrittenKeys}
use Rattle.flu_text.specs.declared.written.WrittenKeys.TheVariants as keys
use Rattle.flu_plan.specs.declared.fault.PlanFault.TheVariants as f
use Rattle.flu_text.specs.declared.words.Token.{Token}
use Rattle.flu_model.specs.declared.jobs.Program.{Program}
use Rattle.flu_plan.specs.declared.grammar.Stage.{Stage}
use Rattle.flu_plan.specs.declared.grammar.Stage.TheVariants as stage
use Rattle.flu_plan.specs.declared.written.WrittenNode.{WrittenNode}
use Rattle.flu_plan.specs.declared.drafts.DraftPred.{DraftPred}
use Rattle.flu_plan.specs.declared.drafts.DraftNode.{DraftNode}
use Rattle.flu_plan.specs.declared.drafts.Visit.{Visit}
use Rattle.flu_plan.specs.Faults.{◌>>=◌, ◌>>◌, unless, each}
use Rattle.flu_layout.specs.Spelling.{name_of, written_value}
use Rattle.flu_plan.specs.Shape.{name_at, name_of_node, visit, preorder, children_of, all_below}
use Rattle.flu_plan.specs.Limits.{small_key, small_keys, keys_of_pred, keys_of_node, keys_of_nodes, predicates, within_limits}
use Rattle.flu_plan.specs.Numbering.{planned_pred, planned_keys, planned_node, planned_found, planned_at, planned}
use Rattle.flu_plan.specs.Machine.{Turn, start, pred, with_pred, with_node, step, whole, stage_end, ended, written_in}
use Rattle.flu_plan.specs.Resolving.{names_of, node_of, nodes_of}
use Rattle.flu_plan.specs.Reading.{text_in, tokens_in, tree_in, resolved, plan_in}
use Rattle.flu_plan.specs.Kept.{KeepsRules}
use Rattle.flu_plan.proofs.Finds.{ok_same, collected, pairs_length}
use Rattle.flu_lemmas.proofs.Loops.{bind_ok, then_ok, each-got, both_pass}
use Rattle.flu_plan.proofs.Distinct.{In, Distinct, in_head, in_tail, distinct_head, distinct_tail, distinct_map, are_distinct-from, sum_below}
use Rattle.flu_plan.proofs.LimitLemmas.{Within, within, passed}
use Rattle.flu_plan.proofs.ShapeLemmas.{preorder-few}
use Rattle.flu_lemmas.proofs.Bytes.{bytes_is}
use Rattle.flu_plan.proofs.Resolved.{Known, nodes_known, name_drafted, children_differ, unless_ok}
use Rattle.flu_plan.proofs.Spreads.{Spread, spread-start}
use Rattle.flu_plan.proofs.Trees.{ids, root_first, walked-all, subtrees, deep}

-- ---- keys

key_small : (b : Bool) (n : ℕ) → unless b (f.OverLimit Key n) ≡ Ok tt → b ≡ true
key_small b n e = unless_ok b (f.OverLimit Key n) tt e

small_planned : (ks : WrittenKeys) → small_keys ks ≡ Ok tt → are_small_keys (planned_keys ks) ≡ true
small_planned keys.Alone e = refl
small_planned (keys.One n) e = key_small (nat_lt (written_value n.value) key_count) (written_value n.value) e
small_planned (keys.Range low high) e =
    let two = passed (nat_lt (written_value low.value) key_count) (f.OverLimit Key (written_value low.value)) (small_key high) e in
    both (nat_lt (written_value low.value) key_count) (nat_lt (written_value high.value) key_count) two.0
    (key_small (nat_lt (written_value high.value) key_count) (written_value high.value) two.1)

preds_small : (preds : List DraftPred) → each keys_of_pred tt preds ≡ Ok tt → list_all (λ (q : Pred). are_small_keys q.keys) (map planned_pred preds) ≡ true
unfolding each
preds_small [] e = refl
preds_small (q ∷ preds) e =
    let first = both_pass (small_keys q.keys) (λ t. each keys_of_pred t preds) e in
    both (are_small_keys (planned_keys q.keys)) (list_all (λ (q : Pred). are_small_keys q.keys) (map planned_pred preds)) (small_planned q.keys first.0)
    (preds_small preds first.1)

abbrev node_small : Node → Bool
node_small node = list_all (λ (q : Pred). are_small_keys q.keys) node.preds

found_small : (text : List ℕ) (o : List Visit) (nodes : List DraftNode) (v : ℕ) (n : Option DraftNode) → slice_get nodes v ≡ n → keys_of_nodes nodes ≡ Ok tt
    → list_all node_small (planned_found text o n) ≡ true
found_small text o nodes v None here e = refl
found_small text o nodes v (Some node) here e =
    both (list_all (λ (q : Pred). are_small_keys q.keys) (map planned_pred node.preds)) true
    (preds_small node.preds (each-got keys_of_node nodes v node e here)) refl

plan_small : (text : List ℕ) (o : List Visit) (nodes : List DraftNode) (order : List Visit) → keys_of_nodes nodes ≡ Ok tt
    → list_all node_small (flat_map (planned_at text o nodes) order) ≡ true
plan_small text o nodes [] e = refl
plan_small text o nodes (x ∷ order) e =
    list_all-append node_small (planned_at text o nodes x) (flat_map (planned_at text o nodes) order)
    ∙ both (list_all node_small (planned_at text o nodes x)) (list_all node_small (flat_map (planned_at text o nodes) order))
    (found_small text o nodes x.node (slice_get nodes x.node) refl e) (plan_small text o nodes order e)

-- ---- predicates

abbrev pub weight_of : Option DraftNode → ℕ
weight_of None = 0
weight_of (Some node) = length node.preds

abbrev pub weight : List DraftNode → ℕ → ℕ
weight nodes v = weight_of (slice_get nodes v)

found_weight : (text : List ℕ) (o : List Visit) (n : Option DraftNode) → count_of_predicates (planned_found text o n) ≡ weight_of n
found_weight text o None = refl
found_weight text o (Some node) =
    let one = sum_by-cons (λ (n : Node). length n.preds) (planned_node text o node) [] in
    let none : sum_by (λ (n : Node). length n.preds) [] ≡ 0 = refl in
    let many = length-map node.preds planned_pred in
    omega arith

plan_weight : (text : List ℕ) (o : List Visit) (nodes : List DraftNode) (order : List Visit)
    → count_of_predicates (flat_map (planned_at text o nodes) order) ≡ sum_by (weight nodes) (ids order)
plan_weight text o nodes [] = refl
plan_weight text o nodes (x ∷ order) =
    let whole = sum_by-append (λ (n : Node). length n.preds) (planned_at text o nodes x) (flat_map (planned_at text o nodes) order) in
    let here = found_weight text o (slice_get nodes x.node) in
    let more = plan_weight text o nodes order in
    let cons = sum_by-cons (weight nodes) x.node (ids order) in
    omega arith

weights : (nodes : List DraftNode) (k : ℕ) → k < length nodes
    → sum_by (λ (n : DraftNode). length n.preds) (take k nodes) + weight nodes k ≡ sum_by (λ (n : DraftNode). length n.preds) (take (suc k) nodes)
weights nodes k lt =
    let d : DraftNode = record { name = record { from = 0; to = 0 }; preds = []; kids = None } in
    let here = ap weight_of (slice_get-get_or nodes k d lt) in
    let more = sum_by_more (λ (n : DraftNode). length n.preds) nodes k d lt in
    let next : k + 1 ≡ suc k = omega arith in
    let same = ap (λ j. sum_by (λ (n : DraftNode). length n.preds) (take j nodes)) next in
    omega arith

few_planned : (text : List ℕ) (o : List Visit) (nodes : List DraftNode) (order : List Visit) → Distinct (ids order)
    → ((v : ℕ) → In v (ids order) → v < length nodes) → count_of_predicates (flat_map (planned_at text o nodes) order) ≤ predicates nodes
few_planned text o nodes order d low =
    let sum = sum_below (weight nodes) (λ k. sum_by (λ (n : DraftNode). length n.preds) (take k nodes)) (length nodes) (weights nodes) (ids order) d low in
    let all = ap (sum_by (λ (n : DraftNode). length n.preds)) (take_all (length nodes) nodes (omega arith)) in
    let same = plan_weight text o nodes order in
    omega arith

-- ---- names

found_names : (text : List ℕ) (o : List Visit) (nodes : List DraftNode) (order : List Visit) → ((v : ℕ) → In v (ids order) → v < length nodes)
    → map (λ (n : Node). n.name) (flat_map (planned_at text o nodes) order) ≡ map (name_at text nodes) (ids order)
found_names text o nodes [] low = refl
found_names text o nodes (x ∷ order) low =
    let d : DraftNode = record { name = record { from = 0; to = 0 }; preds = []; kids = None } in
    let here = slice_get-get_or nodes x.node d (low x.node (in_head x.node (ids order))) in
    let more = found_names text o nodes order (λ v h. low v (in_tail v x.node (ids order) h)) in
    ap (λ n. map (λ (n : Node). n.name) (planned_found text o n ++ flat_map (planned_at text o nodes) order)) here
    ∙ ap (λ l. name_of text (get_or nodes x.node d).name ∷ l) more
    ∙ ap (λ n. name_of_node text n ∷ map (name_at text nodes) (ids order)) (sym here)

named : (text : List ℕ) (nodes : List DraftNode) (v : ℕ) → v < length nodes → In (name_at text nodes v) (map (name_drafted text) nodes)
named text [] v lt = absurd (omega arith)
named text (n ∷ nodes) zero lt = in_head (name_drafted text n) (map (name_drafted text) nodes)
named text (n ∷ nodes) (suc v) lt = in_tail (name_at text nodes v) (name_drafted text n) (map (name_drafted text) nodes) (named text nodes v (omega arith))

names_apart : (text : List ℕ) (nodes : List DraftNode) (u v : ℕ) → Distinct (map (name_drafted text) nodes) → u < length nodes → v < length nodes
    → name_at text nodes u ≡ name_at text nodes v → u ≡ v
names_apart text [] u v d a b e = absurd (omega arith)
names_apart text (n ∷ nodes) zero zero d a b e = refl
names_apart text (n ∷ nodes) zero (suc v) d a b e =
    absurd (distinct_head (name_drafted text n) (map (name_drafted text) nodes) d
    (subst (λ (l : List ℕ). In l (map (name_drafted text) nodes)) (sym e) (named text nodes v (omega arith))))
names_apart text (n ∷ nodes) (suc u) zero d a b e =
    absurd (distinct_head (name_drafted text n) (map (name_drafted text) nodes) d
    (subst (λ (l : List ℕ). In l (map (name_drafted text) nodes)) e (named text nodes u (omega arith))))
names_apart text (n ∷ nodes) (suc u) (suc v) d a b e =
    ap (λ (m : ℕ). suc m) (names_apart text nodes u v (distinct_tail (name_drafted text n) (map (name_drafted text) nodes) d) (omega arith) (omega arith) e)

-- ---- all rules

fewer_planned : (text : List ℕ) (o : List Visit) (nodes : List DraftNode) (order : List Visit)
    → length (flat_map (planned_at text o nodes) order) ≤ length order
fewer_planned text o nodes [] = omega arith
fewer_planned text o nodes (x ∷ order) =
    let whole = length-append (planned_at text o nodes x) (flat_map (planned_at text o nodes) order) in
    let here = one_at_most (slice_get nodes x.node) in
    let more = fewer_planned text o nodes order in
    omega arith
  where
    one_at_most : (n : Option DraftNode) → length (planned_found text o n) ≤ 1
    one_at_most None = omega arith
    one_at_most (Some node) = omega arith

pub kept : (text : List ℕ) (nodes : List DraftNode) (plan : List Node) → Known text nodes → 0 < length nodes → tree_in text nodes ≡ Ok plan → KeepsRules plan
unfolding tree_in
kept text nodes plan known some e =
    let o = preorder nodes in
    let one = then_ok (children_of text nodes) (all_below text o nodes >> (within_limits o nodes >> Ok (planned text o nodes))) plan e in
    let two = then_ok (all_below text o nodes) (within_limits o nodes >> Ok (planned text o nodes)) plan one.2 in
    let three = then_ok (within_limits o nodes) (Ok (planned text o nodes)) plan two.2 in
    let is : planned text o nodes ≡ plan = ok_same (planned text o nodes) plan three.2 in
    let differ = children_differ text nodes one.0 one.1 in
    let limits : Within o nodes = within o nodes three.1 in
    let first = spread-start nodes some in
    let all : Spread nodes (ids o) [] = walked-all text nodes known differ (length nodes) [] (visit 0 0 ∷ []) (omega arith) first in
    let d : Distinct (ids o) = subst (λ (l : List ℕ). Distinct l) (append-nil (ids o)) all.distinct in
    let low : (v : ℕ) → In v (ids o) → v < length nodes = λ v h. all.below v (subst (λ (l : List ℕ). In v l) (sym (append-nil (ids o))) h) in
    let few = preorder-few nodes o refl in
    let fewer = fewer_planned text o nodes o in
    let depth = deep text nodes known differ o (length nodes) [] (visit 0 0 ∷ []) first in
    let rules : KeepsRules (planned text o nodes) = record {
      one_tree =
          ap (λ r. are_subtrees 0 (r ∷ []) (planned text o nodes)) (sym (root_first nodes some))
          ∙ subtrees text nodes known differ o (length nodes) [] (visit 0 0 ∷ []) d (omega arith) first refl;
      own_names =
          ap (are_distinct is_same_text) (found_names text o nodes o low)
          ∙ are_distinct-from is_same_text bytes_is (map (name_at text nodes) (ids o))
          (distinct_map (name_at text nodes) (ids o) (λ u v a b same. names_apart text nodes u v known.own_names (low u a) (low v b) same) d);
      few_nodes = omega (arith, limits.few_nodes);
      few_predicates = (let sum = few_planned text o nodes o d low in let most = limits.few_predicates in omega arith);
      shallow = ap (list_all (λ d. nat_le d 6)) depth ∙ list_all-map (λ d. nat_le d 6) (λ (y : Visit). y.depth) o ∙ limits.shallow;
      small_keys = plan_small text o nodes o limits.keys;
    } in
    subst (λ (l : List Node). KeepsRules l) is rules

-- ---- the whole reading

whole_some : (u : Turn) (kids : Option (WrittenSpan × WrittenSpan)) (ws : List WrittenNode) → whole u kids ≡ Ok ws → 0 < length ws
whole_some u kids ws e =
    let same = ap length (ok_same (with_node u kids).nodes ws e) in
    let more = length_push u.nodes (record { name = u.name; preds = u.preds; kids = kids }) in
    omega arith

stage_some : (end : ℕ) (u : Turn) (s : Stage) (ws : List WrittenNode) → stage_end end u s ≡ Ok ws → 0 < length ws
stage_some end u stage.Colon ws e = whole_some u None ws e
stage_some end u (stage.Kind kind) ws e = whole_some (with_pred u (pred (Some kind) keys.Alone None)) None ws e
stage_some end u (stage.Close kind ks) ws e = whole_some (with_pred u (pred (Some kind) ks None)) None ws e
stage_some end u stage.Source ws e = whole_some u None ws e
stage_some end u (stage.Right left right) ws e = whole_some u (Some (left, right)) ws e
stage_some end u _ ws e = absurd cc

-- a text that is read has a node
written_some : (end : ℕ) (ts : List Token) (ws : List WrittenNode) → written_in end ts ≡ Ok ws → 0 < length ws
unfolding ended
written_some end ts ws e =
    let last = bind_ok (each step start ts) (ended end) ws e in
    stage_some end last.0 last.0.stage ws last.2

nodes_some : (p : Program) (text : List ℕ) (names : List (List ℕ)) (written : List WrittenNode) (nodes : List DraftNode)
    → nodes_of p text names written ≡ Ok nodes → 0 < length written → 0 < length nodes
nodes_some p text names written nodes e some =
    let ones = collected (node_of p text names) [] written nodes e in
    let many = pairs_length (node_of p text names) written ones.0 ones.2 in
    let same = ap length ones.1 in
    omega arith

resolved_kept : (p : Program) (text : List ℕ) (written : List WrittenNode) (plan : List Node) → 0 < length written → resolved p text written ≡ Ok plan
    → KeepsRules plan
unfolding resolved
resolved_kept p text written plan some e =
    let names = bind_ok (names_of text written) (λ names. nodes_of p text names written >>= λ nodes. tree_in text nodes) plan e in
    let nodes = bind_ok (nodes_of p text names.0 written) (λ nodes. tree_in text nodes) plan names.2 in
    kept text nodes.0 plan (nodes_known p text written names.0 nodes.0 names.1 nodes.1) (nodes_some p text names.0 written nodes.0 nodes.1 some) nodes.2

pub plan_kept : (p : Program) (bytes : List ℕ) (plan : List Node) → plan_in p bytes ≡ Ok plan → KeepsRules plan
unfolding plan_in
plan_kept p bytes plan e =
    let one = then_ok (unless (nat_le (length bytes) 1048576) (f.OverLimit Bytes 1048577))
    (text_in bytes >>= λ text. tokens_in text >>= λ ts. written_in (length text) ts >>= λ written. resolved p text written) plan e in
    let text = bind_ok (text_in bytes) (λ text. tokens_in text >>= λ ts. written_in (length text) ts >>= λ written. resolved p text written) plan one.2 in
    let ts = bind_ok (tokens_in text.0) (λ ts. written_in (length text.0) ts >>= λ written. resolved p text.0 written) plan text.2 in
    let written = bind_ok (written_in (length text.0) ts.0) (λ written. resolved p text.0 written) plan ts.2 in
    resolved_kept p text.0 written.0 plan (written_some (length text.0) ts.0 written.0 written.1) written.2
