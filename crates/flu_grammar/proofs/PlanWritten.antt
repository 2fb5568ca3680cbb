-- A plan that written nodes mean is the one that is read of them.
use Rattle.std.proofs.Common.{◌≡◌, inl, inr, ℕ, suc, ◌+◌, ◌<◌, ◌≤◌, true, List, [], ◌∷◌, ◌++◌, map}
use Rattle.std.proofs.Common.{length, Option, Some, None, Ok, refl, sym, ap, subst, ◌∙◌, arith}
use Rattle.std.specs.Prelude.{◌==◌, slice_get, nat_le}
use Rattle.std.specs.List.{list_all, flat_map}
use Rattle.std.proofs.lemmas.Bool.{cases_eq, cases_lt}
use Rattle.std.proofs.lemmas.List.{length-map}
use Rattle.std.proofs.lemmas.List.Folds.{list_all-map}
use Rattle.flu_lemmas.specs.Items.{Pairs}
use Rattle.flu_lemmas.specs.Counting.{times}
use Rattle.flu_lemmas.specs.Totals.{total}
use Rattle.flu_lemmas.proofs.Counting.{times-cons, times_of_same, times_of_other}
use Rattle.flu_lemmas.proofs.Elements.{passes_at}
use Rattle.flu_lemmas.proofs.Places.{slice_get-there}
use Rattle.flu_lemmas.proofs.Searches.{eq_true}
use Rattle.flu_lemmas.proofs.Tests.{true_eq, le_true}
use Rattle.flu_lemmas.proofs.Totals.{sum_by-total}
use Rattle.flu_lemmas.proofs.NoTotal.{total_none}
use Rattle.flu_model.specs.declared.limits.What.TheVariants.{Nodes, Predicates, Depth}
use Rattle.flu_model.specs.declared.jobs.Program.{Program}
use Rattle.flu_model.specs.declared.plans.Pred.{Pred}
use Rattle.flu_model.specs.declared.plans.Node.{Node}
use Rattle.flu_model.specs.PlanRules.{depths, count_of_predicates, are_small_keys}
use Rattle.flu_layout.specs.Spelling.{name_of}
use Rattle.flu_plan.specs.declared.fault.PlanFault.TheVariants as f
use Rattle.flu_plan.specs.declared.written.WrittenNode.{WrittenNode}
use Rattle.flu_plan.specs.declared.drafts.DraftNode.{DraftNode}
use Rattle.flu_plan.specs.declared.drafts.Visit.{Visit}
use Rattle.flu_plan.specs.Faults.{◌>>=◌, ◌>>◌, unless, each}
use Rattle.flu_plan.specs.Resolving.{names_of, node_of, nodes_of}
use Rattle.flu_plan.specs.Shape.{visit, preorder, is_met, below, all_below, children_of}
use Rattle.flu_plan.specs.Limits.{keys_of_node, keys_of_nodes, predicates, are_shallow, within_limits}
use Rattle.flu_plan.specs.Numbering.{number_of, planned_pred, planned_kids, planned_node, planned_found, planned_at, planned}
use Rattle.flu_plan.specs.Reading.{tree_in, resolved}
use Rattle.flu_plan.specs.Kept.{KeepsRules}
use Rattle.flu_grammar.specs.Means.{AllDiffer, IfWritten}
use Rattle.flu_grammar.specs.Plans.{MeansPlan}
use Rattle.flu_grammar.proofs.Lists.{get_below, get_map, get_unmap, any_there, only_at, pairs_right, pairs_weaker}
use Rattle.flu_grammar.proofs.Looks.{ok_ok, passes, binds, thens, Finds, finds_each}
use Rattle.flu_grammar.proofs.Totals.{total_no_more, total_ones, times_in_each}
use Rattle.flu_grammar.proofs.PlanParts.{node_drawn}
use Rattle.flu_grammar.proofs.PlanRead.{written_name}
use Rattle.flu_grammar.proofs.PlanTrees.{kid_list, plan_kids, draft_kids, once_each, children_pass}
use Rattle.flu_grammar.proofs.PlanFound.{differ_from, names_found, preds_small}
use Rattle.flu_grammar.proofs.PlanWalks.{SameName, SameKids, Fits, FitsAt, drafts_found, AreFound, one_place}
use Rattle.flu_grammar.proofs.PlanWalks.{one_number, place_fits, draft_at, Follows, Walks, walks, followed, follower}

-- ---- counts over the nodes of the text are no greater than those over the plan

module _ (text : List ℕ) (names : List (List ℕ)) (plan : List Node) (drafts : List DraftNode) (found : AreFound text names plan drafts) where
  abbrev draft_name : DraftNode → List ℕ
  draft_name d = name_of text d.name

  no_more : (weight : DraftNode → ℕ) (plan_weight : Node → ℕ) → ((d : DraftNode) (n : Node) → Fits text names plan d n → weight d ≤ plan_weight n)
      → total weight drafts ≤ total plan_weight plan
  no_more weight plan_weight less =
      total_no_more draft_name (λ (n : Node). n.name) weight plan_weight drafts plan (subst (λ (l : List (List ℕ)). AllDiffer l) found.named found.own_names)
      (λ a d here. (
      let at = found.fits a d here in
      record { place = at.number; other = at.node; here = at.planned; same = sym at.fits.name; no_less = less d at.node at.fits }))

  few_drafts : length drafts ≤ length plan
  few_drafts =
      let less = no_more (λ d. 1) (λ n. 1) (λ d n fits. omega arith) in
      let one = total_ones drafts in
      let two = total_ones plan in
      omega (arith, less, one, two)

  -- and no fewer: each node of the plan is one of the text
  pub few_plan : length plan ≤ length drafts
  few_plan =
      let less = total_no_more (λ (n : Node). n.name) draft_name (λ n. 1) (λ d. 1) plan drafts found.plan_names (λ u n there. (
      let at = found.all u n there in
      let draft = draft_at text names plan drafts found at.0 u n at.1 there in
      record { place = at.0; other = draft.0; here = draft.1; same = (draft.2).name; no_less = omega arith })) in
      let one = total_ones drafts in
      let two = total_ones plan in
      omega (arith, less, one, two)

  few_preds : predicates drafts ≤ count_of_predicates plan
  few_preds =
      let less = no_more (λ (d : DraftNode). length d.preds) (λ (n : Node). length n.preds) (λ d n fits. (
      let one = length-map d.preds planned_pred in
      let two = ap length fits.preds in
      omega (arith, one, two))) in
      let one = sum_by-total (λ (d : DraftNode). length d.preds) drafts in
      let two = sum_by-total (λ (n : Node). length n.preds) plan in
      omega (arith, less, one, two)

  -- a place stands among children no more often than its number does
  kid_times : (a u : ℕ) → SameName names plan a u → (places numbers : Option (ℕ × ℕ)) → IfWritten (SameKids names plan) places numbers
      → times a (kid_list places) ≤ times u (kid_list numbers)
  kid_times a u same None None h = omega arith
  kid_times a u same None (Some n) h = absurd h
  kid_times a u same (Some p) None h = absurd h
  kid_times a u same (Some p) (Some n) h =
      let left = one_time p.0 n.0 h.0 (p.1 ∷ []) (n.1 ∷ []) (one_time p.1 n.1 h.1 [] [] (omega arith)) in left
    where
      one_time : (b v : ℕ) → SameName names plan b v → (bs vs : List ℕ) → times a bs ≤ times u vs → times a (b ∷ bs) ≤ times u (v ∷ vs)
      one_time b v other bs vs less =
          elim (cases_eq b a) [
            | inl is ↦
                let number : v ≡ u = one_number text names plan drafts found a v u (subst (λ (x : ℕ). SameName names plan x v) is other) same in
                let one = times_of_same a b bs is in
                let two = times_of_same u v vs number in
                omega (arith, one, two, less)
            | inr not ↦
                let one = times_of_other a b bs not in
                let two = times-cons u v vs in
                omega (arith, one, two, less)
          ]

  -- the children of nodes are places
  kid_below : (a : ℕ) → length names ≤ a → (places numbers : Option (ℕ × ℕ)) → IfWritten (SameKids names plan) places numbers → times a (kid_list places) ≡ 0
  kid_below a past None numbers h = refl
  kid_below a past (Some p) None h = absurd h
  kid_below a past (Some p) (Some n) h =
      let left = get_below names p.0 (h.0).name (h.0).written in
      let right = get_below names p.1 (h.1).name (h.1).written in
      times_of_other a p.0 (p.1 ∷ []) (λ e. omega (arith, e, left, past)) ∙ times_of_other a p.1 [] (λ e. omega (arith, e, right, past))

  pub kids_once : SameName names plan 0 0 → ((u : ℕ) → times u (0 ∷ []) + times u (plan_kids plan) ≤ 1)
      → (a : ℕ) → times a (0 ∷ []) + times a (draft_kids drafts) ≤ 1
  kids_once root once a =
      elim (cases_lt a (length names)) [
        | inl lt ↦ there (slice_get-there names a lt)
        | inr past ↦
            let none = times_in_each a (λ (d : DraftNode). kid_list d.kids) drafts
            ∙ total_none (λ (d : DraftNode). times a (kid_list d.kids)) drafts (λ i d here. (
            let at = found.fits i d here in kid_below a past d.kids (at.node).kids at.fits.kids)) in
            let root_there = get_below names 0 root.name root.written in
            let first = times_of_other a 0 [] (λ e. omega (arith, e, past, root_there)) in
            omega (arith, none, first)
      ]
    where
      there : (name : List ℕ) × (slice_get names a ≡ Some name) → times a (0 ∷ []) + times a (draft_kids drafts) ≤ 1
      there named =
          let one = get_unmap draft_name drafts a named.0 (ap (λ (l : List (List ℕ)). slice_get l a) (sym found.named) ∙ named.1) in
          let same = place_fits text names plan drafts found a one.0 one.1 in
          let u = (found.fits a one.0 one.1).number in
          let kids = times_in_each a (λ (d : DraftNode). kid_list d.kids) drafts in
          let plan_has = times_in_each u (λ (n : Node). kid_list n.kids) plan in
          let less = no_more (λ (d : DraftNode). times a (kid_list d.kids)) (λ (n : Node). times u (kid_list n.kids))
          (λ d n fits. kid_times a u same d.kids n.kids fits.kids) in
          let all = once u in
          let first : times a (0 ∷ []) ≤ times u (0 ∷ []) = elim (cases_eq 0 a) [
            | inl is ↦
                let zero_number : 0 ≡ u = one_number text names plan drafts found a 0 u (subst (λ (x : ℕ). SameName names plan x 0) is root) same in
                let one = times_of_same a 0 [] is in
                let two = times_of_same u 0 [] zero_number in
                omega (arith, one, two)
            | inr not ↦ (let one = times_of_other a 0 [] not in omega (arith, one))
          ] in
          omega (arith, kids, plan_has, less, all, first)

  -- ---- the plan that the nodes are

  module _ (o : List Visit) (follows : Follows text names plan drafts found 0 o plan) where
    at_number : (i : ℕ) (x : Visit) → slice_get o i ≡ Some x → SameName names plan x.node i
    at_number i x here =
        let zero_more : 0 + i ≡ i = omega arith in
        subst (λ (u : ℕ). SameName names plan x.node u) zero_more (followed text names plan drafts found 0 o plan follows i x here)

    number_is : (a u : ℕ) → SameName names plan a u → number_of o a ≡ u
    number_is a u same =
        let here = follower text names plan drafts found 0 o plan follows u same.node same.planned in
        let at = at_number u here.0 here.1 in
        only_at (λ (x : Visit). a == x.node) o u here.0 here.1 (eq_true a (here.0).node (one_place text names plan drafts found a (here.0).node u same at))
        (λ j y there passes. (
        let other = at_number j y there in
        let is : a ≡ y.node = true_eq a y.node passes in
        one_number text names plan drafts found a j u (subst (λ (x : ℕ). SameName names plan x j) (sym is) other) same))

    kids_planned : (places numbers : Option (ℕ × ℕ)) → IfWritten (SameKids names plan) places numbers → planned_kids o places ≡ numbers
    kids_planned None None h = refl
    kids_planned None (Some n) h = absurd h
    kids_planned (Some p) None h = absurd h
    kids_planned (Some p) (Some n) h = λ i. Some (number_is p.0 n.0 h.0 i, number_is p.1 n.1 h.1 i)

    node_planned : (d : DraftNode) (n : Node) → Fits text names plan d n → planned_node text o d ≡ n
    node_planned d n fits = λ i. record { name = fits.name i; preds = fits.preds i; kids = kids_planned d.kids n.kids fits.kids i }

    plan_from : (w : ℕ) (order : List Visit) (rest : List Node) → Follows text names plan drafts found w order rest
        → ((i : ℕ) (n : Node) → slice_get rest i ≡ Some n → slice_get plan (w + i) ≡ Some n) → flat_map (planned_at text o drafts) order ≡ rest
    plan_from w [] [] h suffix = refl
    plan_from w [] (n ∷ rest) h suffix = absurd h
    plan_from w (x ∷ order) [] h suffix = absurd h
    plan_from w (x ∷ order) (n ∷ rest) h suffix =
        let draft = draft_at text names plan drafts found x.node w n h.0 (ap (slice_get plan) (omega arith) ∙ suffix 0 n refl) in
        ap (λ (z : Option DraftNode). planned_found text o z ++ flat_map (planned_at text o drafts) order) draft.1
        ∙ (λ i. node_planned draft.0 n draft.2 i
        ∷ plan_from (w + 1) order rest h.1 (λ i m there. ap (slice_get plan) (omega arith) ∙ suffix (suc i) m there) i)

    pub is_planned : planned text o drafts ≡ plan
    is_planned = plan_from 0 o plan follows (λ i n there. ap (slice_get plan) (omega arith) ∙ there)

    -- all are met
    met : (a : ℕ) (d : DraftNode) → slice_get drafts a ≡ Some d → is_met o a ≡ true
    met a d here =
        let at = found.fits a d here in
        let same = place_fits text names plan drafts found a d here in
        let x = follower text names plan drafts found 0 o plan follows at.number at.node at.planned in
        let there = at_number at.number x.0 x.1 in
        any_there (λ (y : Visit). a == y.node) o at.number x.0 x.1 (eq_true a (x.0).node (one_place text names plan drafts found a
        (x.0).node at.number same there))

    all_met : (v : ℕ) (ds : List DraftNode) → ((i : ℕ) (d : DraftNode) → slice_get ds i ≡ Some d → is_met o (v + i) ≡ true)
        → (m : ℕ) × (each (below text o) v ds ≡ Ok m)
    unfolding each below
    all_met v [] h = (v, refl)
    all_met v (d ∷ ds) h =
        let here : is_met o v ≡ true = ap (is_met o) (omega arith) ∙ h 0 d refl in
        let more = all_met (v + 1) ds (λ i e there. ap (is_met o) (omega arith) ∙ h (suc i) e there) in (
          more.0,
          binds (unless (is_met o v) (f.NotATree (name_of text d.name)) >> Ok (v + 1)) (λ t. each (below text o) t ds) (v + 1) more.0
              (passes (is_met o v) (f.NotATree (name_of text d.name)) (Ok (v + 1)) (v + 1) here refl) more.1,
        )

    pub all_are_met : (m : ℕ) × (all_below text o drafts ≡ Ok m)
    all_are_met = all_met 0 drafts (λ i d here. met (0 + i) d (ap (slice_get drafts) (omega arith) ∙ here))

  -- ---- the limits

  keys_pass : (ds : List DraftNode) → ((i : ℕ) (d : DraftNode) → slice_get ds i ≡ Some d → keys_of_node tt d ≡ Ok tt) → keys_of_nodes ds ≡ Ok tt
  unfolding each
  keys_pass [] h = refl
  keys_pass (d ∷ ds) h = binds (keys_of_node tt d) (λ t. each keys_of_node t ds) tt tt (h 0 d refl) (keys_pass ds (λ i e there. h (suc i) e there))

  pub limits_pass : (o : List Visit) → KeepsRules plan → map (λ (x : Visit). x.depth) o ≡ depths plan → within_limits o drafts ≡ Ok tt
  unfolding within_limits
  limits_pass o rules deep =
      let few = few_drafts in
      let most = few_preds in
      let few_nodes = rules.few_nodes in
      let few_predicates = rules.few_predicates in
      let keys = keys_pass drafts (λ a d here. (
      let at = found.fits a d here in
      let small = passes_at (λ (n : Node). list_all (λ (q : Pred). are_small_keys q.keys) n.preds) plan at.number at.node rules.small_keys at.planned in
      preds_small d.preds (ap (list_all (λ (q : Pred). are_small_keys q.keys)) at.fits.preds ∙ small))) in
      passes (nat_le (length drafts) 127) (f.OverLimit Nodes 128) _ tt (le_true (length drafts) 127 (omega (arith, few, few_nodes)))
      (passes (nat_le (predicates drafts) 4096) (f.OverLimit Predicates 4097) _ tt (le_true (predicates drafts) 4096 (omega (arith, most, few_predicates)))
      (passes (are_shallow o) (f.OverLimit Depth 7) (keys_of_nodes drafts) tt
      (sym (list_all-map (λ d. nat_le d 6) (λ (x : Visit). x.depth) o) ∙ ap (list_all (λ d. nat_le d 6)) deep ∙ rules.shallow) keys))

-- ---- the whole

names_of_drafts : (p : Program) (text : List ℕ) (names : List (List ℕ)) (written : List WrittenNode) (drafts : List DraftNode)
    → Pairs (Finds (node_of p text names)) written drafts → map (written_name text) written ≡ map (λ (d : DraftNode). name_of text d.name) drafts
names_of_drafts p text names [] [] h = refl
names_of_drafts p text names [] (d ∷ drafts) h = absurd h
names_of_drafts p text names (v ∷ written) [] h = absurd h
names_of_drafts p text names (v ∷ written) (d ∷ drafts) h =
    λ i. name_of text (sym (node_drawn p text names v d h.0).name i) ∷ names_of_drafts p text names written drafts h.1 i

pub means_resolved : (p : Program) (text : List ℕ) (written : List WrittenNode) (plan : List Node) → 0 < length written → MeansPlan p text written plan
    → resolved p text written ≡ Ok plan
unfolding resolved tree_in
means_resolved p text written plan some means =
    let names = map (written_name text) written in
    let got = drafts_found p text written plan means in
    let drafts = got.0 in
    let pairs : Pairs (Finds (node_of p text names)) written drafts =
    pairs_weaker (λ v d. (node_of p text names v ≡ Ok d) × FitsAt text names plan d) (Finds (node_of p text names)) (λ v d h. h.0) written drafts got.1 in
    let found : AreFound text names plan drafts = record {
      own_names = means.own_names;
      plan_names = differ_from (map (λ (n : Node). n.name) plan) means.rules.own_names;
      named = names_of_drafts p text names written drafts pairs;
      fits = λ a d here.
          (pairs_right (λ v d. (node_of p text names v ≡ Ok d) × FitsAt text names plan d) written drafts got.1 a d here).2.1;
      all = λ u n there. (
          let one = means.each_planned u n there in (
            one.0,
            record {
              name = name_of text (one.1).name;
              written = get_map (written_name text) written one.0 one.1 one.2;
              node = n;
              planned = there;
              is = (one.3).name;
            },
          ));
    } in
    let first = slice_get-there written 0 some in
    let child = means.root first.0 first.1 in
    let root : SameName names plan 0 0 = record {
      name = name_of text (first.0).name;
      written = get_map (written_name text) written 0 first.0 first.1;
      node = child.0;
      planned = child.1;
      is = child.2;
    } in
    let o = preorder drafts in
    let many = few_plan text names plan drafts found in
    let walked : Walks text names plan drafts found 0 o (visit 0 0 ∷ []) plan =
    walks text names plan drafts found (length drafts) 0 (0 ∷ []) (visit 0 0 ∷ []) plan means.rules.one_tree (root, tt)
    (λ i n there. ap (slice_get plan) (omega arith) ∙ there) many in
    let once = kids_once text names plan drafts found root (λ u. (once_each 0 (0 ∷ []) plan means.rules.one_tree u).once) in
    let met = all_are_met text names plan drafts found o walked.follows in
    let is = is_planned text names plan drafts found o walked.follows in
    binds (names_of text written) (λ names. nodes_of p text names written >>= λ ds. tree_in text ds) names plan (names_found text [] written means.own_names)
    (binds (nodes_of p text names written) (λ ds. tree_in text ds) drafts plan (finds_each (node_of p text names) written drafts pairs)
    (thens (children_of text drafts) (all_below text o drafts >> (within_limits o drafts >> Ok (planned text o drafts))) ((0 ∷ []) ++ draft_kids drafts) plan
    (children_pass text drafts (0 ∷ []) drafts once)
    (thens (all_below text o drafts) (within_limits o drafts >> Ok (planned text o drafts)) met.0 plan met.1
    (thens (within_limits o drafts) (Ok (planned text o drafts)) tt plan (limits_pass text names plan drafts found o means.rules walked.depths)
    (ok_ok (planned text o drafts) plan is)))))
