-- The plan of nodes that are one tree keeps the rules of plans.
use Rattle.std.proofs.Common.{◌≡◌, ℕ, zero, suc, ◌+◌, ◌<◌, ◌≤◌, Bool, true, false, cond, List, [], ◌∷◌, ◌++◌, map, length, get_or, Option, Some, None, refl}
use Rattle.std.proofs.Common.{sym, ap, subst, ◌∙◌, append_assoc, arith}
use Rattle.std.specs.Prelude.{not, ◌==◌, slice_get}
use Rattle.std.specs.List.{flat_map}
use Rattle.std.proofs.lemmas.List.{append-nil, length-map, map-append, length_push}
use Rattle.std.proofs.lemmas.Option.{slice_get-get_or}
use Rattle.flu_lemmas.proofs.Tests.{both, true_eq}
use Rattle.flu_lemmas.proofs.Searches.{eq_true}
use Rattle.flu_model.specs.declared.plans.Node.{Node}
use Rattle.flu_model.specs.PlanRules.{with_kids, are_subtrees, with_depths, depths_below}
use Rattle.flu_plan.specs.declared.drafts.DraftNode.{DraftNode}
use Rattle.flu_plan.specs.declared.drafts.Visit.{Visit}
use Rattle.flu_plan.specs.Shape.{kids_at, kids_of_node, with_visits, walk, preorder}
use Rattle.flu_plan.specs.Numbering.{planned_kids, planned_node, planned_found, planned_at, number_of}
use Rattle.flu_plan.proofs.Distinct.{In, Distinct, in_head, in_map, in_right, distinct_head, distinct_tail}
use Rattle.flu_plan.proofs.Resolved.{Known, kid_list, children}
use Rattle.flu_plan.proofs.Spreads.{Spread, spread-next, none_wanted}
use Rattle.flu_plan.proofs.ShapeLemmas.{walk-zero, walk-one, walk-none}

abbrev pub ids : List Visit → List ℕ
ids order = map (λ (x : Visit). x.node) order

-- ---- a walk through a tree

-- the root comes first
pub root_first : (nodes : List DraftNode) → 0 < length nodes → number_of (preorder nodes) 0 ≡ 0
unfolding walk
root_first [] some = absurd (omega arith)
root_first (n ∷ nodes) some = refl

visits_ids : (d : ℕ) (kids : Option (ℕ × ℕ)) (wanted : List Visit) → ids (with_visits d kids wanted) ≡ kid_list kids ++ ids wanted
visits_ids d None wanted = refl
visits_ids d (Some kids) wanted = refl

no_ids : (wanted : List Visit) → ids wanted ≡ [] → wanted ≡ []
no_ids [] e = refl
no_ids (x ∷ wanted) e = absurd cc

-- the place of the first visit of a node
first_place : (front back : List Visit) (x : Visit) → Distinct (ids (front ++ x ∷ back)) → number_of (front ++ x ∷ back) x.node ≡ length front
first_place [] back x d = ap (λ b. cond (not b) (1 + number_of back x.node) 0) (eq_true x.node x.node refl)
first_place (y ∷ front) back x d =
    let more = first_place front back x (distinct_tail y.node (ids (front ++ x ∷ back)) d) in
    ap (λ b. cond (not b) (1 + number_of (front ++ x ∷ back) x.node) 0) (apart (x.node == y.node) refl) ∙ (omega arith)
  where
    apart : (b : Bool) → (x.node == y.node) ≡ b → (x.node == y.node) ≡ false
    apart true t =
        absurd
        (distinct_head y.node (ids (front ++ x ∷ back)) d
        (subst (λ (v : ℕ). In v (ids (front ++ x ∷ back))) (true_eq x.node y.node t)
        (in_map (λ (z : Visit). z.node) x (front ++ x ∷ back) (in_right x front (x ∷ back) (in_head x back)))))
    apart false t = t

module _ (text : List ℕ) (nodes : List DraftNode) (known : Known text nodes) (differ : Distinct (0 ∷ children nodes)) where
  spread-walked : (x : Visit) (done wanted : List Visit) → Spread nodes (ids done) (ids (x ∷ wanted))
      → Spread nodes (ids (done ++ x ∷ [])) (ids (with_visits x.depth (kids_at nodes x.node) wanted))
  spread-walked x done wanted s =
      subst (λ (l : List ℕ). Spread nodes l (ids (with_visits x.depth (kids_at nodes x.node) wanted))) (sym (map-append (λ (y : Visit). y.node) done (x ∷ [])))
      (subst (λ (l : List ℕ). Spread nodes (ids done ++ x.node ∷ []) l) (sym (visits_ids x.depth (kids_at nodes x.node) wanted))
      (spread-next text nodes known differ x.node (ids done) (ids wanted) s))

  -- all visits but the last come to an end
  pub walked-all : (m : ℕ) (done wanted : List Visit) → length nodes ≤ length done + m → Spread nodes (ids done) (ids wanted)
      → Spread nodes (ids (done ++ walk nodes m wanted)) []
  walked-all zero done wanted le s =
      let count = length-map done (λ (x : Visit). x.node) in
      let none = none_wanted text nodes known differ (ids done) (ids wanted) s (omega arith) in
      subst (λ (l : List Visit). Spread nodes (ids l) []) (sym (ap (λ l. done ++ l) (walk-zero nodes 0 wanted refl)
      ∙ append-nil done)) (subst (λ (l : List ℕ). Spread nodes (ids done) l) none s)
  walked-all (suc m) done [] le s =
      subst (λ (l : List Visit). Spread nodes (ids l) []) (sym (ap (λ l. done ++ l) (walk-none nodes (suc m)) ∙ append-nil done)) s
  walked-all (suc m) done (x ∷ wanted) le s =
      let next = with_visits x.depth (kids_at nodes x.node) wanted in
      let longer = length_push done x in
      let more = walked-all m (done ++ x ∷ []) next (omega arith) (spread-walked x done wanted s) in
      subst (λ (l : List Visit). Spread nodes (ids l) []) (append_assoc done (x ∷ []) (walk nodes m next)
      ∙ ap (λ l. done ++ l) (sym (walk-one nodes (suc m) m wanted x refl))) more

  -- a node that is met is one
  got : (met wanted : List ℕ) (v : ℕ) → Spread nodes met (v ∷ wanted) → (node : DraftNode) × (slice_get nodes v ≡ Some node)
  got met wanted v s = at (slice_get nodes v) refl
    where
      none_past : slice_get nodes v ≡ None → (node : DraftNode) × (slice_get nodes v ≡ Some node)
      none_past e =
          let lt = s.below v (in_right v met (v ∷ wanted) (in_head v wanted)) in
          let here = slice_get-get_or nodes v (record { name = record { from = 0; to = 0 }; preds = []; kids = None }) lt in
          (get_or nodes v (record { name = record { from = 0; to = 0 }; preds = []; kids = None }), here)

      at : (o : Option DraftNode) → slice_get nodes v ≡ o → (node : DraftNode) × (slice_get nodes v ≡ Some node)
      at None e = none_past e
      at (Some node) e = (node, e)

  kids_planned : (o wanted : List Visit) (d : ℕ) (kids : Option (ℕ × ℕ))
      → with_kids (planned_kids o kids) (map (λ (y : Visit). number_of o y.node) wanted) ≡ map (λ (y : Visit). number_of o y.node) (with_visits d kids wanted)
  kids_planned o wanted d None = refl
  kids_planned o wanted d (Some kids) = refl

  depths_planned : (o wanted : List Visit) (d : ℕ) (kids : Option (ℕ × ℕ))
      → with_depths d (planned_kids o kids) (map (λ (y : Visit). y.depth) wanted) ≡ map (λ (y : Visit). y.depth) (with_visits d kids wanted)
  depths_planned o wanted d None = refl
  depths_planned o wanted d (Some kids) = refl

  -- the nodes of the plan from some place on
  abbrev rest_of : List Visit → List Visit → List Node
  rest_of o order = flat_map (planned_at text o nodes) order

  one_planned : (o order : List Visit) (x : Visit) (node : DraftNode) → slice_get nodes x.node ≡ Some node
      → rest_of o (x ∷ order) ≡ planned_node text o node ∷ rest_of o order
  one_planned o order x node here = ap (λ n. planned_found text o n ++ rest_of o order) here

  pub subtrees : (o : List Visit) (m : ℕ) (done wanted : List Visit) → Distinct (ids o) → length nodes ≤ length done + m
      → Spread nodes (ids done) (ids wanted) → done ++ walk nodes m wanted ≡ o
      → are_subtrees (length done) (map (λ (y : Visit). number_of o y.node) wanted) (rest_of o (walk nodes m wanted)) ≡ true
  subtrees o zero done wanted d le s e =
      let count = length-map done (λ (x : Visit). x.node) in
      let none = no_ids wanted (none_wanted text nodes known differ (ids done) (ids wanted) s (omega arith)) in
      ap (λ l. are_subtrees (length done) (map (λ (y : Visit). number_of o y.node) wanted) (rest_of o l)) (walk-zero nodes 0 wanted refl)
      ∙ ap (λ l. are_subtrees (length done) (map (λ (y : Visit). number_of o y.node) l) []) none
  subtrees o (suc m) done [] d le s e = ap (λ l. are_subtrees (length done) [] (rest_of o l)) (walk-none nodes (suc m))
  subtrees o (suc m) done (x ∷ wanted) d le s e =
      let number = λ (y : Visit). number_of o y.node in
      let here = got (ids done) (ids wanted) x.node s in
      let node = here.0 in
      let next = with_visits x.depth (kids_at nodes x.node) wanted in
      let tail = walk nodes m next in
      let longer : length (done ++ x ∷ []) ≡ length done + 1 = length_push done x in
      let split : (done ++ x ∷ []) ++ tail ≡ o = append_assoc done (x ∷ []) tail ∙ ap (λ l. done ++ l) (sym (walk-one nodes (suc m) m wanted x refl)) ∙ e in
      let whole : done ++ x ∷ tail ≡ o = ap (λ l. done ++ l) (sym (walk-one nodes (suc m) m wanted x refl)) ∙ e in
      let place : number x ≡ length done = ap (λ l. number_of l x.node) (sym whole)
      ∙ first_place done tail x (subst (λ (l : List Visit). Distinct (ids l)) (sym whole) d) in
      let kids : node.kids ≡ kids_at nodes x.node = sym (ap kids_of_node here.1) in
      let more = subtrees o m (done ++ x ∷ []) next d (omega arith) (spread-walked x done wanted s) split in
      ap (λ l. are_subtrees (length done) (number x ∷ map number wanted) (rest_of o l)) (walk-one nodes (suc m) m wanted x refl)
      ∙ ap (are_subtrees (length done) (number x ∷ map number wanted)) (one_planned o tail x node here.1)
      ∙ both (number x == length done) (are_subtrees (length done + 1) (with_kids (planned_kids o node.kids) (map number wanted)) (rest_of o tail))
      (eq_true (number x) (length done) place)
      (ap (λ k. are_subtrees (length done + 1) (with_kids (planned_kids o k) (map number wanted)) (rest_of o tail)) kids
      ∙ ap (λ l. are_subtrees (length done + 1) l (rest_of o tail)) (kids_planned o wanted x.depth (kids_at nodes x.node))
      ∙ ap (λ n. are_subtrees n (map number next) (rest_of o tail)) (sym longer)
      ∙ more)

  -- the depths of the plan's nodes are those of the visits
  pub deep : (o : List Visit) (m : ℕ) (done wanted : List Visit) → Spread nodes (ids done) (ids wanted)
      → depths_below (map (λ (y : Visit). y.depth) wanted) (rest_of o (walk nodes m wanted)) ≡ map (λ (y : Visit). y.depth) (walk nodes m wanted)
  deep o m done [] s = ap (λ l. depths_below [] (rest_of o l)) (walk-none nodes m) ∙ ap (map (λ (y : Visit). y.depth)) (sym (walk-none nodes m))
  deep o zero done (x ∷ wanted) s =
      ap (λ l. depths_below (x.depth ∷ map (λ (y : Visit). y.depth) wanted) (rest_of o l)) (walk-zero nodes 0 (x ∷ wanted) refl)
      ∙ ap (map (λ (y : Visit). y.depth)) (sym (walk-zero nodes 0 (x ∷ wanted) refl))
  deep o (suc m) done (x ∷ wanted) s =
      let depth = λ (y : Visit). y.depth in
      let here = got (ids done) (ids wanted) x.node s in
      let node = here.0 in
      let next = with_visits x.depth (kids_at nodes x.node) wanted in
      let tail = walk nodes m next in
      let kids : node.kids ≡ kids_at nodes x.node = sym (ap kids_of_node here.1) in
      ap (λ l. depths_below (x.depth ∷ map depth wanted) (rest_of o l)) (walk-one nodes (suc m) m wanted x refl)
      ∙ ap (depths_below (x.depth ∷ map depth wanted)) (one_planned o tail x node here.1)
      ∙ ap (λ k. x.depth ∷ depths_below (with_depths x.depth (planned_kids o k) (map depth wanted)) (rest_of o tail)) kids
      ∙ ap (λ l. x.depth ∷ depths_below l (rest_of o tail)) (depths_planned o wanted x.depth (kids_at nodes x.node))
      ∙ ap (λ l. x.depth ∷ l) (deep o m (done ++ x ∷ []) next (spread-walked x done wanted s))
      ∙ ap (map depth) (sym (walk-one nodes (suc m) m wanted x refl))
