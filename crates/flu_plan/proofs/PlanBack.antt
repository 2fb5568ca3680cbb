-- The drafts of a plan's nodes are planned as that plan.
use Rattle.std.proofs.Common.{◌≡◌, inl, inr, ℕ, zero, suc, ◌+◌, ◌<◌, ◌≤◌, Bool, true, false, cond, List, [], ◌∷◌, ◌++◌, map, length, Option, Some, None, Ok}
use Rattle.std.proofs.Common.{refl, sym, ap, subst, ◌∙◌, append_assoc, arith}
use Rattle.std.specs.Prelude.{not, ◌&&◌, ◌||◌, ◌==◌, nat_le, slice_get}
use Rattle.std.specs.List.{list_all, list_any, flat_map}
use Rattle.std.proofs.lemmas.List.{append-nil, length-map}
use Rattle.std.proofs.lemmas.List.Sums.{sum_by-cons}
use Rattle.flu_lemmas.proofs.Tests.{and_left, and_right, true_eq, le_true, false_if_not}
use Rattle.flu_lemmas.proofs.Searches.{eq_true}
use Rattle.flu_model.specs.declared.limits.What.TheVariants.{Nodes, Predicates, Depth}
use Rattle.flu_model.specs.declared.plans.Node.{Node}
use Rattle.flu_model.specs.PlanRules.{with_kids, are_subtrees, is_tree, with_depths, depths_below, depths, count_of_predicates}
use Rattle.flu_lemmas.specs.Items.{Pairs as Zip}
use Rattle.flu_plan.specs.declared.fault.PlanFault.TheVariants as f
use Rattle.flu_plan.specs.declared.drafts.DraftNode.{DraftNode}
use Rattle.flu_plan.specs.declared.drafts.Visit.{Visit}
use Rattle.flu_plan.specs.Faults.{◌>>=◌, ◌>>◌, unless, each}
use Rattle.flu_plan.specs.Shape.{name_at, with_child, with_kids as note_kids, with_kids_of, kids_at, visit, with_visits, walk, preorder, is_met, below}
use Rattle.flu_plan.specs.Shape.{all_below}
use Rattle.flu_plan.specs.Limits.{keys_of_node, keys_of_nodes, predicates, are_shallow, within_limits}
use Rattle.flu_plan.specs.Numbering.{planned_pred, planned_kids, planned_node, planned_found, planned_at, planned, number_of}
use Rattle.flu_plan.specs.Reading.{tree_in}
use Rattle.flu_plan.specs.Kept.{KeepsRules}
use Rattle.flu_plan.proofs.Distinct.{In, Distinct, in_nil, in_head, in_tail, in_cases, in_left, in_right, in_middle, distinct_none, distinct_cons}
use Rattle.flu_plan.proofs.Distinct.{distinct_head, distinct_tail, distinct_middle, distinct_apart, found_in}
use Rattle.flu_plan.proofs.ShapeLemmas.{below-met, walk-zero, walk-one}
use Rattle.flu_plan.proofs.Resolved.{kid_list, children}
use Rattle.flu_plan.proofs.Trees.{ids}
use Rattle.flu_plan.proofs.PlanRead.{DraftIs}

-- ---- the children of a tree

abbrev kids_of_plan : Node → List ℕ
kids_of_plan n = kid_list n.kids

abbrev pub all_kids : List Node → List ℕ
all_kids nodes = flat_map kids_of_plan nodes

-- what is wanted and all children are different numbers of the nodes that come
record Grows (w : ℕ) (wanted : List ℕ) (rest : List Node) : Type 0 where
  distinct : Distinct (wanted ++ all_kids rest)
  low : (v : ℕ) → In v (wanted ++ all_kids rest) → w ≤ v
  high : (v : ℕ) → In v (wanted ++ all_kids rest) → v < w + length rest

-- behind the first of them
grows_more : (w : ℕ) (wanted : List ℕ) (kids : Option (ℕ × ℕ)) (n : Node) (rest : List Node) → n.kids ≡ kids → Grows (w + 1) (with_kids kids wanted) rest
    → Grows w (w ∷ wanted) (n ∷ rest)
grows_more w wanted None n rest e g =
    let same : wanted ++ all_kids (n ∷ rest) ≡ wanted ++ all_kids rest = ap (λ k. wanted ++ (kid_list k ++ all_kids rest)) e in
    subst (λ (l : List ℕ). Distinct (w ∷ l) × ((v : ℕ) → In v (w ∷ l) → w ≤ v) × ((v : ℕ) → In v (w ∷ l) → v < w + length (n ∷ rest)) → Grows w (w ∷ wanted)
    (n ∷ rest)) same
    (λ h. record { distinct = h.0; low = h.1; high = h.2 }) (
      distinct_cons w (wanted ++ all_kids rest) (λ i. (let le = g.low w i in absurd (omega arith))) g.distinct,
      λ v i. elim (in_cases v w (wanted ++ all_kids rest) i) [ inl same ↦ (omega arith) | inr b ↦ (let le = g.low v b in omega arith) ],
      λ v i. elim (in_cases v w (wanted ++ all_kids rest) i) [ inl same ↦ (omega arith) | inr b ↦ (let lt = g.high v b in omega arith) ],
    )
grows_more w wanted (Some kids) n rest e g =
    let others = all_kids rest in
    let l = kids.0 in
    let r = kids.1 in
    let new_left = distinct_head l (r ∷ (wanted ++ others)) g.distinct in
    let tail = distinct_tail l (r ∷ (wanted ++ others)) g.distinct in
    let new_right = distinct_head r (wanted ++ others) tail in
    let one = distinct_middle r wanted others (distinct_tail r (wanted ++ others) tail) new_right in
    let two : Distinct (wanted ++ l ∷ r ∷ others) = distinct_middle l wanted (r ∷ others) one
    (λ h. elim (in_middle l r wanted others h) [
      | inl same ↦ new_left (subst (λ (z : ℕ). In z (r ∷ (wanted ++ others))) (sym same) (in_head r (wanted ++ others)))
      | inr b ↦ new_left
          (in_tail l r (wanted ++ others) b)
    ]) in
    let back : (v : ℕ) → In v (wanted ++ l ∷ r ∷ others) → In v (l ∷ r ∷ (wanted ++ others)) = λ v i. elim (in_middle v l wanted (r ∷ others) i) [
      | inl same ↦ subst (λ (z : ℕ). In z (l ∷ r ∷ (wanted ++ others))) (sym same) (in_head l (r ∷ (wanted ++ others)))
      | inr b ↦ in_tail v l (r ∷ (wanted ++ others))
          (elim (in_middle v r wanted others b) [
            | inl same ↦ subst (λ (z : ℕ). In z (r ∷ (wanted ++ others))) (sym same) (in_head r (wanted ++ others))
            | inr d ↦ in_tail v r
                (wanted ++ others) d
          ])
    ] in
    let same : wanted ++ all_kids (n ∷ rest) ≡ wanted ++ (l ∷ r ∷ others) = ap (λ k. wanted ++ (kid_list k ++ others)) e in
    subst (λ (x : List ℕ). Distinct (w ∷ x) × ((v : ℕ) → In v (w ∷ x) → w ≤ v) × ((v : ℕ) → In v (w ∷ x) → v < w + length (n ∷ rest)) → Grows w (w ∷ wanted)
    (n ∷ rest)) same
    (λ h. record { distinct = h.0; low = h.1; high = h.2 }) (
      distinct_cons w (wanted ++ l ∷ r ∷ others) (λ i. (let le = g.low w (back w i) in absurd (omega arith))) two,
      λ v i. elim (in_cases v w (wanted ++ l ∷ r ∷ others) i) [ inl same ↦ (omega arith) | inr b ↦ (let le = g.low v (back v b) in omega arith) ],
      λ v i. elim (in_cases v w (wanted ++ l ∷ r ∷ others) i) [ inl same ↦ (omega arith) | inr b ↦ (let lt = g.high v (back v b) in omega arith) ],
    )

grows : (w : ℕ) (wanted : List ℕ) (rest : List Node) → are_subtrees w wanted rest ≡ true → Grows w wanted rest
grows w [] [] e = record { distinct = distinct_none ℕ; low = λ v i. absurd (in_nil v i); high = λ v i. absurd (in_nil v i) }
grows w [] (n ∷ rest) e = absurd cc
grows w (v ∷ wanted) [] e = absurd cc
grows w (v ∷ wanted) (n ∷ rest) e =
    let here : v ≡ w = true_eq v w (and_left (v == w) (are_subtrees (w + 1) (with_kids n.kids wanted) rest) e) in
    let more = grows (w + 1) (with_kids n.kids wanted) rest (and_right (v == w) (are_subtrees (w + 1) (with_kids n.kids wanted) rest) e) in
    subst (λ (x : ℕ). Grows w (x ∷ wanted) (n ∷ rest)) (sym here) (grows_more w wanted n.kids n rest refl more)

-- ---- the walk through a tree

-- visits at these depths, with numbers that rise
abbrev pub numbered : ℕ → List ℕ → List Visit
numbered w [] = []
numbered w (d ∷ ds) = visit w d ∷ numbered (w + 1) ds

abbrev depths_of : List Visit → List ℕ
depths_of wanted = map (λ (x : Visit). x.depth) wanted

visits_kids : (d : ℕ) (kids : Option (ℕ × ℕ)) (wanted : List Visit) → ids (with_visits d kids wanted) ≡ with_kids kids (ids wanted)
visits_kids d None wanted = refl
visits_kids d (Some kids) wanted = refl

visits_depths : (d : ℕ) (kids : Option (ℕ × ℕ)) (wanted : List Visit) → depths_of (with_visits d kids wanted) ≡ with_depths d kids (depths_of wanted)
visits_depths d None wanted = refl
visits_depths d (Some kids) wanted = refl

abbrev kids_of_found : Option Node → Option (ℕ × ℕ)
kids_of_found None = None
kids_of_found (Some n) = n.kids

walk_numbers : (drafts : List DraftNode) (rest : List Node) (w : ℕ) (wanted : List Visit)
    → ((j : ℕ) → kids_at drafts (w + j) ≡ kids_of_found (slice_get rest j)) → are_subtrees w (ids wanted) rest ≡ true
    → walk drafts (length rest) wanted ≡ numbered w (depths_below (depths_of wanted) rest)
walk_numbers drafts [] w [] same e = walk-zero drafts 0 [] refl
walk_numbers drafts [] w (x ∷ wanted) same e = absurd cc
walk_numbers drafts (n ∷ rest) w [] same e = absurd cc
walk_numbers drafts (n ∷ rest) w (x ∷ wanted) same e =
    let more : Bool = are_subtrees (w + 1) (with_kids n.kids (ids wanted)) rest in
    let here : x.node ≡ w = true_eq x.node w (and_left (x.node == w) more e) in
    let at : w ≡ w + 0 = omega arith in
    let kids : kids_at drafts x.node ≡ n.kids = ap (kids_at drafts) (here ∙ at) ∙ same 0 in
    let next = with_visits x.depth n.kids wanted in
    let later : (j : ℕ) → kids_at drafts (w + 1 + j) ≡ kids_of_found (slice_get rest j) = λ j.
    (let moved : w + 1 + j ≡ w + suc j = omega arith in ap (kids_at drafts) moved ∙ same (suc j)) in
    walk-one drafts (suc (length rest)) (length rest) wanted x refl
    ∙ ap (λ k. x ∷ walk drafts (length rest) (with_visits x.depth k wanted)) kids
    ∙ ap (λ l. x ∷ l) (walk_numbers drafts rest (w + 1) next later (ap (λ l. are_subtrees (w + 1) l rest) (visits_kids x.depth n.kids wanted)
    ∙ and_right (x.node == w) more e))
    ∙ ap (λ l. x ∷ numbered (w + 1) (depths_below l rest)) (visits_depths x.depth n.kids wanted)
    ∙ ap (λ (v : ℕ). visit v x.depth ∷ numbered (w + 1) (depths_below (with_depths x.depth n.kids (depths_of wanted)) rest)) here

depths_count : (w : ℕ) (wanted ds : List ℕ) (rest : List Node) → are_subtrees w wanted rest ≡ true → length ds ≡ length wanted
    → length (depths_below ds rest) ≡ length rest
depths_count w [] [] [] e same = refl
depths_count w [] [] (n ∷ rest) e same = absurd cc
depths_count w [] (d ∷ ds) rest e same = absurd (omega arith)
depths_count w (v ∷ wanted) [] rest e same = absurd (omega arith)
depths_count w (v ∷ wanted) (d ∷ ds) [] e same = absurd cc
depths_count w (v ∷ wanted) (d ∷ ds) (n ∷ rest) e same =
    let more = depths_count (w + 1) (with_kids n.kids wanted) (with_depths d n.kids ds) rest
    (and_right (v == w) (are_subtrees (w + 1) (with_kids n.kids wanted) rest) e) (alike n.kids) in
    omega arith
  where
    alike : (kids : Option (ℕ × ℕ)) → length (with_depths d kids ds) ≡ length (with_kids kids wanted)
    alike None = omega arith
    alike (Some kids) = omega arith

-- ---- what the looks find

not_there : (v : ℕ) (vs : List ℕ) → (In v vs → ⊥) → not (list_any (λ u. v == u) vs) ≡ true
not_there v vs new = ap not (false_if_not (list_any (λ u. v == u) vs) (λ e. new (found_in (λ a b. a == b) true_eq v vs e)))

child_noted : (text : List ℕ) (nodes : List DraftNode) (cs : List ℕ) (v : ℕ) → (In v cs → ⊥) → with_child text nodes cs v ≡ Ok (cs ++ v ∷ [])
unfolding with_child
child_noted text nodes cs v new = ap (λ b. unless b (f.NotATree (name_at text nodes v)) >> Ok (cs ++ v ∷ [])) (not_there v cs new)

kids_noted : (text : List ℕ) (nodes : List DraftNode) (cs others : List ℕ) (kids : Option (ℕ × ℕ)) → Distinct (cs ++ (kid_list kids ++ others))
    → with_kids_of text nodes cs kids ≡ Ok (cs ++ kid_list kids)
kids_noted text nodes cs others None d = ap Ok (sym (append-nil cs))
kids_noted text nodes cs others (Some kids) d =
    let l = kids.0 in
    let r = kids.1 in
    let later : Distinct ((cs ++ l ∷ []) ++ (r ∷ others)) = subst (λ (x : List ℕ). Distinct x) (sym (append_assoc cs (l ∷ []) (r ∷ others))) d in
    let first = child_noted text nodes cs l (λ h. distinct_apart l cs (l ∷ r ∷ others) d h (in_head l (r ∷ others))) in
    let second = child_noted text nodes (cs ++ l ∷ []) r (λ h. distinct_apart r (cs ++ l ∷ []) (r ∷ others) later h (in_head r others)) in
    ap (λ x. x >>= λ more. with_child text nodes more r) first ∙ second ∙ ap Ok (append_assoc cs (l ∷ []) (r ∷ []))

children_noted : (text : List ℕ) (nodes : List DraftNode) (cs : List ℕ) (rest : List DraftNode) → Distinct (cs ++ children rest)
    → each (note_kids text nodes) cs rest ≡ Ok (cs ++ children rest)
unfolding each note_kids
children_noted text nodes cs [] d = ap Ok (sym (append-nil cs))
children_noted text nodes cs (n ∷ rest) d =
    let now = cs ++ kid_list n.kids in
    let later : Distinct (now ++ children rest) = subst (λ (x : List ℕ). Distinct x) (sym (append_assoc cs (kid_list n.kids) (children rest))) d in
    ap (λ x. x >>= λ more. each (note_kids text nodes) more rest) (kids_noted text nodes cs (children rest) n.kids d)
    ∙ children_noted text nodes now rest later
    ∙ ap Ok (append_assoc cs (kid_list n.kids) (children rest))

met_numbered : (ds : List ℕ) (a j : ℕ) → j < length ds → is_met (numbered a ds) (a + j) ≡ true
met_numbered [] a j lt = absurd (omega arith)
met_numbered (d ∷ ds) a zero lt = ap (λ b. b || is_met (numbered (a + 1) ds) (a + 0)) (eq_true (a + 0) a (omega arith))
met_numbered (d ∷ ds) a (suc j) lt =
    let moved : a + suc j ≡ a + 1 + j = omega arith in
    ap (λ v. (v == a) || is_met (numbered (a + 1) ds) v) moved
    ∙ ap (λ b. (a + 1 + j == a) || b) (met_numbered ds (a + 1) j (omega arith))
    ∙ or_true (a + 1 + j == a)
  where
    or_true : (b : Bool) → (b || true) ≡ true
    or_true true = refl
    or_true false = refl

below_all : (text : List ℕ) (order : List Visit) (w : ℕ) (rest : List DraftNode) → ((j : ℕ) → j < length rest → is_met order (w + j) ≡ true)
    → each (below text order) w rest ≡ Ok (w + length rest)
unfolding each
below_all text order w [] met = let none : w ≡ w + 0 = omega arith in ap Ok none
below_all text order w (n ∷ rest) met =
    let at : w ≡ w + 0 = omega arith in
    let here : is_met order w ≡ true = ap (is_met order) at ∙ met 0 (omega arith) in
    let size : w + 1 + length rest ≡ w + suc (length rest) = omega arith in
    ap (λ x. x >>= λ v. each (below text order) v rest) (below-met text order w n here)
    ∙ below_all text order (w + 1) rest (λ j lt. (let moved : w + 1 + j ≡ w + suc j = omega arith in ap (is_met order) moved ∙ met (suc j) (omega arith)))
    ∙ ap Ok size

shallow_numbered : (w : ℕ) (ds : List ℕ) → are_shallow (numbered w ds) ≡ list_all (λ d. nat_le d 6) ds
shallow_numbered w [] = refl
shallow_numbered w (d ∷ ds) = ap (λ b. nat_le d 6 && b) (shallow_numbered (w + 1) ds)

number_numbered : (ds : List ℕ) (a j : ℕ) → j < length ds → number_of (numbered a ds) (a + j) ≡ j
number_numbered [] a j lt = absurd (omega arith)
number_numbered (d ∷ ds) a zero lt = ap (λ b. cond (not b) (1 + number_of (numbered (a + 1) ds) (a + 0)) 0) (eq_true (a + 0) a (omega arith))
number_numbered (d ∷ ds) a (suc j) lt =
    let moved : a + suc j ≡ a + 1 + j = omega arith in
    let apart : (a + 1 + j == a) ≡ false = false_if_not (a + 1 + j == a) (λ e. (let same = true_eq (a + 1 + j) a e in omega arith)) in
    let more = number_numbered ds (a + 1) j (omega arith) in
    ap (λ v. cond (not (v == a)) (1 + number_of (numbered (a + 1) ds) v) 0) moved
    ∙ ap (λ b. cond (not b) (1 + number_of (numbered (a + 1) ds) (a + 1 + j)) 0) apart
    ∙ (omega arith)

-- ---- drafts of nodes

module _ (text : List ℕ) where
  drafts_count : (nodes : List Node) (drafts : List DraftNode) → Zip (DraftIs text) nodes drafts → length drafts ≡ length nodes
  drafts_count [] [] h = refl
  drafts_count [] (d ∷ drafts) h = absurd h
  drafts_count (n ∷ nodes) [] h = absurd h
  drafts_count (n ∷ nodes) (d ∷ drafts) h = let more = drafts_count nodes drafts h.1 in omega arith

  drafts_kids : (nodes : List Node) (drafts : List DraftNode) → Zip (DraftIs text) nodes drafts → (j : ℕ) → kids_at drafts j ≡ kids_of_found (slice_get nodes j)
  drafts_kids [] [] h j = refl
  drafts_kids [] (d ∷ drafts) h j = absurd h
  drafts_kids (n ∷ nodes) [] h j = absurd h
  drafts_kids (n ∷ nodes) (d ∷ drafts) h zero = h.0.kids
  drafts_kids (n ∷ nodes) (d ∷ drafts) h (suc j) = drafts_kids nodes drafts h.1 j

  drafts_children : (nodes : List Node) (drafts : List DraftNode) → Zip (DraftIs text) nodes drafts → children drafts ≡ all_kids nodes
  drafts_children [] [] h = refl
  drafts_children [] (d ∷ drafts) h = absurd h
  drafts_children (n ∷ nodes) [] h = absurd h
  drafts_children (n ∷ nodes) (d ∷ drafts) h =
      ap (λ k. kid_list k ++ children drafts) h.0.kids ∙ ap (λ l. kid_list n.kids ++ l) (drafts_children nodes drafts h.1)

  drafts_predicates : (nodes : List Node) (drafts : List DraftNode) → Zip (DraftIs text) nodes drafts → predicates drafts ≡ count_of_predicates nodes
  drafts_predicates [] [] h = refl
  drafts_predicates [] (d ∷ drafts) h = absurd h
  drafts_predicates (n ∷ nodes) [] h = absurd h
  drafts_predicates (n ∷ nodes) (d ∷ drafts) h =
      let more = drafts_predicates nodes drafts h.1 in
      let here = ap length h.0.preds in
      let many = length-map d.preds planned_pred in
      let a = sum_by-cons (λ (x : DraftNode). length x.preds) d drafts in
      let b = sum_by-cons (λ (x : Node). length x.preds) n nodes in
      omega arith

  drafts_keys : (nodes : List Node) (drafts : List DraftNode) → Zip (DraftIs text) nodes drafts → keys_of_nodes drafts ≡ Ok tt
  unfolding each
  drafts_keys [] [] h = refl
  drafts_keys [] (d ∷ drafts) h = absurd h
  drafts_keys (n ∷ nodes) [] h = absurd h
  drafts_keys (n ∷ nodes) (d ∷ drafts) h = ap (λ x. x >>= λ t. each keys_of_node t drafts) h.0.small ∙ drafts_keys nodes drafts h.1

  -- a draft at a place
  record DraftAt (drafts : List DraftNode) (n : Node) (j : ℕ) : Type 0 where
    draft : DraftNode
    here : slice_get drafts j ≡ Some draft
    is : DraftIs text n draft

  draft_at : (nodes : List Node) (drafts : List DraftNode) (j : ℕ) (n : Node) → Zip (DraftIs text) nodes drafts → slice_get nodes j ≡ Some n
      → DraftAt drafts n j
  draft_at [] drafts j n h here = absurd cc
  draft_at (m ∷ nodes) [] j n h here = absurd h
  draft_at (m ∷ nodes) (d ∷ drafts) zero n h here =
      let same : m ≡ n = cc in record { draft = d; here = refl; is = subst (λ (x : Node). DraftIs text x d) same h.0 }
  draft_at (m ∷ nodes) (d ∷ drafts) (suc j) n h here =
      let more = draft_at nodes drafts j n h.1 here in record { draft = more.draft; here = more.here; is = more.is }

  kids_planned : (ds : List ℕ) (kids : Option (ℕ × ℕ)) → ((v : ℕ) → In v (kid_list kids) → v < length ds) → planned_kids (numbered 0 ds) kids ≡ kids
  kids_planned ds None low = refl
  kids_planned ds (Some kids) low =
      let own : (v : ℕ) → v < length ds → number_of (numbered 0 ds) v ≡ v = λ v lt. (let at : v ≡ 0 + v = omega arith in ap (number_of (numbered 0 ds)) at
      ∙ number_numbered ds 0 v lt) in
      let left = own kids.0 (low kids.0 (in_head kids.0 (kids.1 ∷ []))) in
      let right = own kids.1 (low kids.1 (in_tail kids.1 kids.0 (kids.1 ∷ []) (in_head kids.1 []))) in
      ap (λ (v : ℕ). Some (v, number_of (numbered 0 ds) kids.1)) left ∙ ap (λ (v : ℕ). Some (kids.0, v)) right

  node_planned : (ds : List ℕ) (n : Node) (d : DraftNode) → DraftIs text n d → ((v : ℕ) → In v (kid_list n.kids) → v < length ds)
      → planned_node text (numbered 0 ds) d ≡ n
  node_planned ds n d is low =
      let kids : planned_kids (numbered 0 ds) d.kids ≡ n.kids = ap (planned_kids (numbered 0 ds)) is.kids ∙ kids_planned ds n.kids low in
      λ i. record { name = is.name_is i; preds = is.preds i; kids = kids i }

  -- the nodes from a place on
  rest_planned : (drafts : List DraftNode) (ds all : List ℕ) (w : ℕ) (rest : List Node) → length ds ≡ length rest
      → ((j : ℕ) (n : Node) → slice_get rest j ≡ Some n → DraftAt drafts n (w + j)) → ((v : ℕ) → In v (all_kids rest) → v < length all)
      → flat_map (planned_at text (numbered 0 all) drafts) (numbered w ds) ≡ rest
  rest_planned drafts [] all w [] same at low = refl
  rest_planned drafts [] all w (n ∷ rest) same at low = absurd (omega arith)
  rest_planned drafts (d ∷ ds) all w [] same at low = absurd (omega arith)
  rest_planned drafts (d ∷ ds) all w (n ∷ rest) same at low =
      let start : w ≡ w + 0 = omega arith in
      let first = at 0 n refl in
      let here : slice_get drafts w ≡ Some first.draft = ap (slice_get drafts) start ∙ first.here in
      let tail = flat_map (planned_at text (numbered 0 all) drafts) (numbered (w + 1) ds) in
      let more = rest_planned drafts ds all (w + 1) rest (omega arith)
      (λ j m e. subst (λ (i : ℕ). DraftAt drafts m i) (let moved : w + suc j ≡ w + 1 + j = omega arith in moved) (at (suc j) m e))
      (λ v h. low v (in_right v (kid_list n.kids) (all_kids rest) h)) in
      ap (λ o. planned_found text (numbered 0 all) o ++ tail) here
      ∙ ap (λ x. x ∷ tail) (node_planned all n first.draft first.is (λ v h. low v (in_left v (kid_list n.kids) (all_kids rest) h)))
      ∙ ap (λ l. n ∷ l) more

  -- the drafts are planned as their nodes
  pub planned_back : (nodes : List Node) (drafts : List DraftNode) → KeepsRules nodes → Zip (DraftIs text) nodes drafts → tree_in text drafts ≡ Ok nodes
  unfolding tree_in within_limits
  planned_back nodes drafts kept are =
      let ds = depths nodes in
      let order = numbered 0 ds in
      let count = drafts_count nodes drafts are in
      let deep : length ds ≡ length nodes = depths_count 0 (0 ∷ []) (0 ∷ []) nodes kept.one_tree refl in
      let g = grows 0 (0 ∷ []) nodes kept.one_tree in
      let kids : (j : ℕ) → kids_at drafts (0 + j) ≡ kids_of_found (slice_get nodes j) = λ j. (let at : 0 + j ≡ j = omega arith in ap (kids_at drafts) at
      ∙ drafts_kids nodes drafts are j) in
      let walked : preorder drafts ≡ order = ap (λ n. walk drafts n (visit 0 0 ∷ [])) count ∙ walk_numbers drafts nodes 0 (visit 0 0 ∷ []) kids kept.one_tree in
      let apart : Distinct (0 ∷ children drafts) = subst (λ (l : List ℕ). Distinct (0 ∷ l)) (sym (drafts_children nodes drafts are)) g.distinct in
      let noted = children_noted text drafts (0 ∷ []) drafts apart in
      let met = below_all text order 0 drafts (λ j lt. met_numbered ds 0 j (omega arith)) in
      let few_nodes : nat_le (length drafts) 127 ≡ true = le_true (length drafts) 127 (omega (arith, kept.few_nodes)) in
      let few_predicates : nat_le (predicates drafts) 4096 ≡ true = le_true (predicates drafts) 4096
      (omega (arith, kept.few_predicates, drafts_predicates nodes drafts are)) in
      let shallow : are_shallow order ≡ true = shallow_numbered 0 ds ∙ kept.shallow in
      let low : (v : ℕ) → In v (all_kids nodes) → v < length ds = λ v h. (let high = g.high v (in_tail v 0 (all_kids nodes) h) in omega arith) in
      let nodes_back = rest_planned drafts ds ds 0 nodes deep
      (λ j n e. subst (λ (i : ℕ). DraftAt drafts n i) (let at : j ≡ 0 + j = omega arith in at) (draft_at nodes drafts j n are e)) low in
      ap (λ x. x >> (all_below text (preorder drafts) drafts >> (within_limits (preorder drafts) drafts >> Ok (planned text (preorder drafts) drafts)))) noted
      ∙ ap (λ o. all_below text o drafts >> (within_limits o drafts >> Ok (planned text o drafts))) walked
      ∙ ap (λ x. x >> (within_limits order drafts >> Ok (planned text order drafts))) met
      ∙ ap (λ b. (unless b (f.OverLimit Nodes 128) >>
      (unless (nat_le (predicates drafts) 4096) (f.OverLimit Predicates 4097) >>
      (unless (are_shallow order) (f.OverLimit Depth 7) >> keys_of_nodes drafts))) >> Ok (planned text order drafts)) few_nodes
      ∙ ap (λ b. (unless b (f.OverLimit Predicates 4097) >> (unless (are_shallow order) (f.OverLimit Depth 7) >> keys_of_nodes drafts)) >> Ok
      (planned text order drafts)) few_predicates
      ∙ ap (λ b. (unless b (f.OverLimit Depth 7) >> keys_of_nodes drafts) >> Ok (planned text order drafts)) shallow
      ∙ ap (λ x. x >> Ok (planned text order drafts)) (drafts_keys nodes drafts are)
      ∙ ap Ok nodes_back

-- the children of a plan's nodes are nodes
pub kids_below : (nodes : List Node) → is_tree nodes ≡ true → (v : ℕ) → In v (all_kids nodes) → v < length nodes
kids_below nodes e v h = let high = (grows 0 (0 ∷ []) nodes e).high v (in_tail v 0 (all_kids nodes) h) in omega arith
