-- The text of a plan is read as that plan.
use Rattle.std.proofs.Common.{◌≡◌, ◌<◌, ◌≤◌, ℕ, true, ◌&&◌, List, [], ◌∷◌, ◌++◌, map, length, Option, Some, None, Ok, refl, sym, ap, subst, ◌∙◌, append_assoc}
use Rattle.std.proofs.Common.{arith}
use Rattle.std.specs.Prelude.{not, nat_le, nat_lt, slice_get}
use Rattle.std.specs.List.{list_all, list_any}
use Rattle.std.specs.Str.{IsUtf8, bytes_eq}
use Rattle.std.proofs.lemmas.List.{append-nil}
use Rattle.std.proofs.lemmas.Option.{slice_get-get_or}
use Rattle.flu_lemmas.proofs.Tests.{and_left, and_right, both, le_true, false_if_not}
use Rattle.flu_text.specs.declared.words.Token.{Token}
use Rattle.flu_text.specs.Reading.{Reading as TokenReading}
use Rattle.flu_text.specs.Layout.{layout, tokens_of}
use Rattle.flu_model.specs.declared.limits.What.TheVariants.{Bytes}
use Rattle.flu_model.specs.declared.jobs.Kind.{Kind}
use Rattle.flu_model.specs.declared.jobs.Family.{Family}
use Rattle.flu_model.specs.declared.jobs.Source.{Source}
use Rattle.flu_model.specs.declared.jobs.Program.{Program}
use Rattle.flu_model.specs.declared.plans.Pred.{Pred}
use Rattle.flu_model.specs.declared.plans.Node.{Node}
use Rattle.flu_model.specs.Numberings.{Numbering}
use Rattle.flu_model.specs.Rules.{is_same_text, action_fits, kind_fits, origin_fits, tag_ref_fits, are_distinct, is_same_tag, source_fits}
use Rattle.flu_names.specs.Names.{is_name}
use Rattle.flu_model.specs.Listing.{tags_of_source}
use Rattle.flu_model.specs.PlanRules.{is_tree, are_small_keys}
use Rattle.flu_model.specs.Owners.{pred_fits, nodes_fit}
use Rattle.flu_lemmas.specs.Items.{Pairs as Zip}
use Rattle.flu_lemmas.proofs.Booleans.{three_left}
use Rattle.flu_lemmas.proofs.Elements.{list_all_weaker, list_all_both, passes_at}
use Rattle.flu_layout.specs.Laws.{LaidIsRead, BegunAreSigns, KeysAreSpelled, KeysAreLaid}
use Rattle.flu_plan.specs.declared.fault.PlanFault.TheVariants as f
use Rattle.flu_plan.specs.declared.written.WrittenNode.{WrittenNode}
use Rattle.flu_plan.specs.Faults.{Found, ◌>>=◌, ◌>>◌, unless, each}
use Rattle.flu_plan.specs.Machine.{written_in}
use Rattle.flu_plan.specs.Resolving.{with_name, names_of, node_of, nodes_of}
use Rattle.flu_plan.specs.Reading.{text_in, found_tokens, tokens_in, tree_in, resolved, plan_in}
use Rattle.flu_plan.specs.Printing.{name_of_child, printed, has_text}
use Rattle.flu_plan.specs.Kept.{KeepsRules}
use Rattle.flu_plan.specs.Laws.{PrintedIsRead}
use Rattle.flu_plan.proofs.Finds.{collects_all}
use Rattle.flu_plan.proofs.Distinct.{In, Distinct, in_head, in_tail, in_left, in_right, distinct_front, distinct_back, distinct_apart, distinct_from, found_in}
use Rattle.flu_plan.proofs.ReadingLemmas.{text_in-utf8}
use Rattle.flu_lemmas.proofs.Bytes.{bytes_itself, bytes_is}
use Rattle.flu_plan.proofs.Resolved.{kid_list, name_written}
use Rattle.flu_plan.proofs.Spelled.{found_if_spelled}
use Rattle.flu_plan.proofs.PlanWords.{NamesFit, pred_ok, kids_ok, node_ok, plan_words, plan_layout, plan_laid}
use Rattle.flu_plan.proofs.PlanRead.{NamesDiffer, NodeIs, read_all, nodes_found}
use Rattle.flu_plan.proofs.PlanBack.{all_kids, planned_back, kids_below}
use Rattle.flu_plan.proofs.Lengths.{kept_is_short}
use Rattle.std.proofs.lemmas.Str.{IsUtf8-from_ascii}

-- ---- what the rules of the job say of its names

kind_named : (families : List Family) (k : Kind) → kind_fits families k ≡ true → is_name k.name ≡ true
kind_named families k h = three_left (is_name k.name) (nat_le (length k.actions) 32) (list_all (action_fits families k.keyed k.has_value) k.actions) h

source_is_named : (kinds : List Kind) (s : Source) → source_fits kinds s ≡ true → is_name s.name ≡ true
source_is_named kinds s h =
    let name = is_name s.name in
    let origin = origin_fits kinds s in
    let rate = nat_le s.rate 1000000000 in
    let slack = nat_le s.slack 60000 in
    let some = nat_lt 0 (length s.tags) in
    let tags = list_all (tag_ref_fits kinds) s.tags in
    let apart = are_distinct is_same_tag (tags_of_source s) in
    let five = and_left (name && origin && rate && slack && some) tags (and_left (name && origin && rate && slack && some && tags) apart h) in
    three_left name origin rate (and_left (name && origin && rate) slack (and_left (name && origin && rate && slack) some five))

names_fit : (p : Program) → NamesFit p
names_fit p = record {
  kinds = list_all_weaker (kind_fits p.families) (λ (k : Kind). is_name k.name) p.kinds (kind_named p.families) p.kinds_fit;
  sources = list_all_weaker (source_fits p.kinds) (λ (s : Source). is_name s.name) p.sources (source_is_named p.kinds) p.sources_fit;
}

names_differ : (p : Program) → NamesDiffer p
names_differ p =
    let families = map (λ (x : Family). x.name) p.families in
    let kinds = map (λ (k : Kind). k.name) p.kinds in
    let sources = map (λ (s : Source). s.name) p.sources in
    let lists = map (λ (l : Numbering). l.name) p.lists in
    let whole : Distinct (families ++ kinds ++ sources ++ lists) =
    distinct_from is_same_text bytes_itself (families ++ kinds ++ sources ++ lists) p.own_names in
    let all : Distinct (families ++ kinds ++ sources) = distinct_front (families ++ kinds ++ sources) lists whole in
    record { kinds = distinct_back families kinds (distinct_front (families ++ kinds) sources all); sources = distinct_back (families ++ kinds) sources all }

-- ---- what the rules of the plan say of its nodes

child_named : (nodes : List Node) (v : ℕ) → list_all (λ (n : Node). is_name n.name) nodes ≡ true → v < length nodes
    → is_name (name_of_child (slice_get nodes v)) ≡ true
child_named nodes v named lt =
    let d : Node = record { name = []; preds = []; kids = None } in
    let here = slice_get-get_or nodes v d lt in
    ap (λ o. is_name (name_of_child o)) here ∙ passes_at (λ (n : Node). is_name n.name) nodes v _ named here

nodes_ok : (p : Program) (all rest : List Node) → list_all (λ (n : Node). is_name n.name) all ≡ true → ((v : ℕ) → In v (all_kids rest) → v < length all)
    → nodes_fit p rest ≡ true
    → list_all (λ (n : Node). list_all (λ (q : Pred). are_small_keys q.keys) n.preds) rest ≡ true → list_all (λ (n : Node). is_name n.name) rest ≡ true
    → list_all (node_ok p all) rest ≡ true
nodes_ok p all [] named low fits small names = refl
nodes_ok p all (n ∷ rest) named low fits small names =
    let fit_here = list_all (pred_fits p) n.preds in
    let small_here = list_all (λ (q : Pred). are_small_keys q.keys) n.preds in
    let small_rest = list_all (λ (n : Node). list_all (λ (q : Pred). are_small_keys q.keys) n.preds) rest in
    let names_rest = list_all (λ (n : Node). is_name n.name) rest in
    let preds = list_all_both (pred_fits p) (λ (q : Pred). are_small_keys q.keys) n.preds (and_left fit_here (nodes_fit p rest) fits)
    (and_left small_here small_rest small) in
    let kids = kids_named n.kids (λ v h. low v (in_left v (kid_list n.kids) (all_kids rest) h)) in
    both (node_ok p all n) (list_all (node_ok p all) rest)
    (both (is_name n.name && list_all (pred_ok p) n.preds) (kids_ok all n.kids)
    (both (is_name n.name) (list_all (pred_ok p) n.preds) (and_left (is_name n.name) names_rest names) preds) kids)
    (nodes_ok p all rest named (λ v h. low v (in_right v (kid_list n.kids) (all_kids rest) h)) (and_right fit_here (nodes_fit p rest) fits)
    (and_right small_here small_rest small) (and_right (is_name n.name) names_rest names))
  where
    kids_named : (kids : Option (ℕ × ℕ)) → ((v : ℕ) → In v (kid_list kids) → v < length all) → kids_ok all kids ≡ true
    kids_named None low = refl
    kids_named (Some kids) low =
        both (is_name (name_of_child (slice_get all kids.0))) (is_name (name_of_child (slice_get all kids.1)))
        (child_named all kids.0 named (low kids.0 (in_head kids.0 (kids.1 ∷ []))))
        (child_named all kids.1 named (low kids.1 (in_tail kids.1 kids.0 (kids.1 ∷ []) (in_head kids.1 []))))

-- ---- names of nodes that are written

name_noted : (text : List ℕ) (names : List (List ℕ)) (v : WrittenNode) → (In (name_written text v) names → ⊥)
    → with_name text names v ≡ Ok (names ++ name_written text v ∷ [])
unfolding with_name
name_noted text names v new =
    ap (λ b. unless (not b) (f.NotATree (name_written text v)) >> Ok (names ++ name_written text v ∷ []))
    (false_if_not (list_any (bytes_eq (name_written text v)) names) (λ e. new (found_in bytes_eq bytes_is (name_written text v) names e)))

names_noted : (text : List ℕ) (names : List (List ℕ)) (vs : List WrittenNode) → Distinct (names ++ map (name_written text) vs)
    → each (with_name text) names vs ≡ Ok (names ++ map (name_written text) vs)
unfolding each
names_noted text names [] d = ap Ok (sym (append-nil names))
names_noted text names (v ∷ vs) d =
    let name = name_written text v in
    let others = map (name_written text) vs in
    let later : Distinct ((names ++ name ∷ []) ++ others) = subst (λ (l : List (List ℕ)). Distinct l) (sym (append_assoc names (name ∷ []) others)) d in
    ap (λ r. r >>= λ t. each (with_name text) t vs) (name_noted text names v (λ h. distinct_apart name names (name ∷ others) d h (in_head name others)))
    ∙ names_noted text (names ++ name ∷ []) vs later
    ∙ ap Ok (append_assoc names (name ∷ []) others)

tree_some : (nodes : List Node) → is_tree nodes ≡ true → 0 < length nodes
tree_some [] e = absurd cc
tree_some (n ∷ nodes) e = omega arith

module _ (p : Program) (nodes : List Node) (kept : KeepsRules nodes) (has : has_text p nodes ≡ true) where
  ok : list_all (node_ok p nodes) nodes ≡ true
  ok =
      let fits = and_left (nodes_fit p nodes) (list_all (λ (n : Node). is_name n.name) nodes) has in
      let names = and_right (nodes_fit p nodes) (list_all (λ (n : Node). is_name n.name) nodes) has in
      nodes_ok p nodes nodes names (kids_below nodes kept.one_tree) fits kept.small_keys names

  some : 0 < length nodes
  some = tree_some nodes kept.one_tree

  module _ (whole : List ℕ) where
    names_are : (all : List Node) (vs : List WrittenNode) → Zip (NodeIs whole p (names_differ p) nodes) all vs
        → map (name_written whole) vs ≡ map (λ (n : Node). n.name) all
    names_are [] [] h = refl
    names_are [] (v ∷ vs) h = absurd h
    names_are (n ∷ all) [] h = absurd h
    names_are (n ∷ all) (v ∷ vs) h = ap (λ x. x ∷ map (name_written whole) vs) h.0.name_is ∙ ap (λ l. n.name ∷ l) (names_are all vs h.1)

    resolved_back : (vs : List WrittenNode) → Zip (NodeIs whole p (names_differ p) nodes) nodes vs → resolved p whole vs ≡ Ok nodes
    unfolding resolved
    resolved_back vs are =
        let all = map (λ (n : Node). n.name) nodes in
        let apart : Distinct all = distinct_from is_same_text bytes_itself all kept.own_names in
        let named = names_are nodes vs are in
        let noted : names_of whole vs ≡ Ok all = names_noted whole [] vs (subst (λ (l : List (List ℕ)). Distinct l) (sym named) apart) ∙ ap Ok named in
        let found = nodes_found whole p (names_differ p) nodes apart nodes vs ok are in
        ap (λ r. r >>= λ names. nodes_of p whole names vs >>= λ ds. tree_in whole ds) noted
        ∙ ap (λ r. r >>= λ ds. tree_in whole ds) (collects_all (node_of p whole all) [] vs found.drafts found.found)
        ∙ planned_back whole nodes found.drafts kept found.are

-- the words of a plan, laid out, are read as that plan
laid_back : LaidIsRead → BegunAreSigns → KeysAreLaid → (p : Program) (nodes : List Node) → KeepsRules nodes → has_text p nodes ≡ true
    → IsUtf8 (layout (plan_words p nodes))
    → length (layout (plan_words p nodes)) ≤ 1048576 → plan_in p (layout (plan_words p nodes)) ≡ Ok nodes
unfolding plan_in
laid_back read begun keys_laid p nodes kept has utf8 few =
    let whole : List ℕ = layout (plan_words p nodes) in
    let ts : List Token = tokens_of 0 (plan_words p nodes) in
    let back = read (plan_words p nodes) (plan_laid keys_laid p (names_fit p) nodes (ok p nodes kept has)) utf8 in
    let r = read_all whole p (names_differ p) nodes begun nodes ts (some p nodes kept has) (ok p nodes kept has) back.1 in
    let rest : List ℕ → Found (List Node) = λ text. tokens_in text >>= λ ts. written_in (length text) ts >>= λ written. resolved p text written in
    ap (λ b. unless b (f.OverLimit Bytes 1048577) >> (text_in whole >>= rest)) (le_true (length whole) 1048576 few)
    ∙ ap (λ (x : Found (List ℕ)). x >>= rest) (text_in-utf8 whole whole refl utf8)
    ∙ ap (λ (x : TokenReading). found_tokens x >>= λ ts. written_in (length whole) ts >>= λ written. resolved p whole written) back.0
    ∙ ap (λ (x : Found (List WrittenNode)). x >>= λ written. resolved p whole written) (found_if_spelled (length whole) ts r.written r.plan)
    ∙ resolved_back p nodes kept has whole r.written r.are

pub printed_is_read : LaidIsRead → BegunAreSigns → KeysAreSpelled → KeysAreLaid → PrintedIsRead
printed_is_read read begun keys_spelled keys_laid p nodes kept has =
    let short = kept_is_short p nodes kept (and_right (nodes_fit p nodes) (list_all (λ (n : Node). is_name n.name) nodes) has) in
    subst (λ text. IsUtf8 text → length text ≤ 1048576 → plan_in p text ≡ Ok nodes) (plan_layout keys_spelled p nodes)
    (laid_back read begun keys_laid p nodes kept has) (IsUtf8-from_ascii (printed p nodes) short.ascii) short.few
