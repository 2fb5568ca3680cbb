-- The nodes of a plan are a tree: parents, and what is within what.
use Rattle.std.proofs.Common.{◌≡◌, ◌<◌, ◌≤◌, ◌+◌, ℕ, zero, suc, true, false, cond, Option, Some, None}
use Rattle.std.proofs.Common.{List, [], ◌∷◌, length, ◌⊎◌, inl, inr, refl, sym, ap, subst, ◌∙◌, arith}
use Rattle.std.specs.Prelude.{nat_le, ◌==◌, IfSome, option_map}
use Rattle.std.specs.List.{list_all}
use Rattle.std.proofs.lemmas.Bool.{cases_Bool, cases_lt, cases_eq, ne_eqb, or_left, or_right, or_cases}
use Rattle.flu_lemmas.proofs.Places.{position-cons}
use Rattle.flu_lemmas.proofs.Searches.{eq_true}
use Rattle.flu_lemmas.proofs.Tests.{and_left, and_right, both, true_eq, le_true, true_le, false_if_not, not_both}
use Rattle.flu_model.specs.declared.plans.Node.{Node}
use Rattle.flu_model.specs.Owners.{is_kid, parent_of}
use Rattle.flu_model.specs.PlanRules.{with_kids, are_subtrees, is_tree}
use Rattle.flu_deps.specs.Owned.{kids_at}
use Rattle.flu_deps.specs.Trees.{AreKids, IsRooted}
use Rattle.flu_deps.proofs.NodeLemmas.{has_root}
use Rattle.flu_deps.proofs.TreeLemmas.{kids_are_nodes}

-- ---- how often a node is a child
-- how often a number is in a list, and is one of two children
times_in : ℕ → List ℕ → ℕ
times_in v [] = 0
times_in v (u ∷ us) = cond (u == v) 1 0 + times_in v us

times_kid : ℕ → Option (ℕ × ℕ) → ℕ
times_kid v None = 0
times_kid v (Some kids) = cond (kids.0 == v) 1 0 + cond (kids.1 == v) 1 0

times_child : ℕ → List Node → ℕ
times_child v [] = 0
times_child v (node ∷ rest) = times_kid v node.kids + times_child v rest

with_kids-times : (v : ℕ) (kids : Option (ℕ × ℕ)) (wanted : List ℕ) → times_in v (with_kids kids wanted) ≡ times_kid v kids + times_in v wanted
unfolding times_in times_kid
with_kids-times v None wanted = omega arith
with_kids-times v (Some kids) wanted = omega arith

-- numbers before the first are not wanted, nor are they children
none_earlier : (v w : ℕ) (wanted : List ℕ) (nodes : List Node) → v < w → are_subtrees w wanted nodes ≡ true → times_in v wanted + times_child v nodes ≡ 0
unfolding times_in times_child
none_earlier v w [] [] lt e = refl
none_earlier v w [] (node ∷ rest) lt e = cc
none_earlier v w (u ∷ wanted) [] lt e = cc
none_earlier v w (u ∷ wanted) (node ∷ rest) lt e =
    let here : u ≡ w = true_eq u w (and_left (u == w) _ e) in
    let other : (u == v) ≡ false = ne_eqb u v (λ s. omega arith) in
    let zero_here : cond {A = ℕ} (u == v) 1 0 ≡ 0 = ap (λ b. cond b 1 0) other in
    let rest_none = none_earlier v (w + 1) (with_kids node.kids wanted) rest (omega arith) (and_right (u == w) _ e) in
    omega (arith, with_kids-times v node.kids wanted)

-- each number from the first on is wanted once, or a child once
one_each : (v w : ℕ) (wanted : List ℕ) (nodes : List Node) → w ≤ v → v < w + length nodes → are_subtrees w wanted nodes ≡ true
    → times_in v wanted + times_child v nodes ≡ 1
unfolding times_in times_child
one_each v w wanted [] le lt e = absurd (omega arith)
one_each v w [] (node ∷ rest) le lt e = cc
one_each v w (u ∷ wanted) (node ∷ rest) le lt e =
    let here : u ≡ w = true_eq u w (and_left (u == w) _ e) in
    let later : are_subtrees (w + 1) (with_kids node.kids wanted) rest ≡ true = and_right (u == w) _ e in
    elim (cases_eq u v) [
      | inl same ↦
          let one_here : cond {A = ℕ} (u == v) 1 0 ≡ 1 = ap (λ b. cond b 1 0) (eq_true u v same) in
          let rest_none = none_earlier v (w + 1) (with_kids node.kids wanted) rest (omega arith) later in
          omega (arith, with_kids-times v node.kids wanted)
      | inr other ↦
          let zero_here : cond {A = ℕ} (u == v) 1 0 ≡ 0 = ap (λ b. cond b 1 0) (ne_eqb u v other) in
          let rest_one = one_each v (w + 1) (with_kids node.kids wanted) rest (omega arith) (omega arith) later in
          omega (arith, with_kids-times v node.kids wanted)
    ]

child_once : (nodes : List Node) → is_tree nodes ≡ true → (v : ℕ) → 0 < v → v < length nodes → times_child v nodes ≡ 1
unfolding times_in
child_once nodes tree v some lt =
    let all = one_each v 0 (0 ∷ []) nodes (omega arith) (omega arith) tree in
    let not_root : cond {A = ℕ} (0 == v) 1 0 ≡ 0 = ap (λ b. cond b 1 0) (ne_eqb 0 v (λ s. omega arith)) in
    omega arith

root_never : (nodes : List Node) → is_tree nodes ≡ true → times_child 0 nodes ≡ 0
unfolding times_in
root_never nodes tree =
    let some = has_root nodes tree in
    let all = one_each 0 0 (0 ∷ []) nodes (omega arith) (omega arith) tree in
    omega arith

-- ---- parents
kid_times : (v : ℕ) (kids : Option (ℕ × ℕ)) → is_kid v kids ≡ true → 0 < times_kid v kids
unfolding times_kid
kid_times v None e = cc
kid_times v (Some kids) e =
    elim (or_cases (kids.0 == v) (kids.1 == v) e) [
      | inl h ↦ let one : cond {A = ℕ} (kids.0 == v) 1 0 ≡ 1 = ap (λ b. cond b 1 0) h in omega arith
      | inr h ↦ let one : cond {A = ℕ} (kids.1 == v) 1 0 ≡ 1 = ap (λ b. cond b 1 0) h in omega arith
    ]

times_kid-is : (v : ℕ) (kids : Option (ℕ × ℕ)) → 0 < times_kid v kids → is_kid v kids ≡ true
unfolding times_kid
times_kid-is v None some = absurd (omega arith)
times_kid-is v (Some kids) some =
    elim (cases_Bool (kids.0 == v)) [
      | inl h ↦ or_left _ _ h
      | inr g ↦ elim (cases_Bool (kids.1 == v)) [
        | inl h ↦ or_right _ _ h
        | inr h ↦
            let one : cond {A = ℕ} (kids.0 == v) 1 0 ≡ 0 = ap (λ b. cond b 1 0) g in
            let two : cond {A = ℕ} (kids.1 == v) 1 0 ≡ 0 = ap (λ b. cond b 1 0) h in
            absurd (omega arith)
      ]
    ]

kid_never : (v : ℕ) (kids : Option (ℕ × ℕ)) → is_kid v kids ≡ false → times_kid v kids ≡ 0
kid_never v kids h =
    elim (cases_lt 0 (times_kid v kids)) [
      | inl lt ↦ absurd (not_both _ (times_kid-is v kids lt) h)
      | inr le ↦ omega arith
    ]

child_times : (nodes : List Node) (w v : ℕ) → is_kid v (kids_at nodes w) ≡ true → 0 < times_child v nodes
unfolding times_child
child_times [] w v e = cc
child_times (node ∷ rest) zero v e = let some = kid_times v node.kids e in omega arith
child_times (node ∷ rest) (suc w) v e = let some = child_times rest w v e in omega arith

-- the node of which v is a child, where it is one once
is_parent : (nodes : List Node) (w v : ℕ) → is_kid v (kids_at nodes w) ≡ true → times_child v nodes ≡ 1 → parent_of nodes v ≡ Some w
unfolding times_child
is_parent [] w v e once = cc
is_parent (node ∷ rest) zero v e once = position-cons (λ (n : Node). is_kid v n.kids) node rest
    ∙ ap (λ b. cond b (Some 0) (option_map (λ i. i + 1) (parent_of rest v))) e
is_parent (node ∷ rest) (suc w) v e once =
    let some = child_times rest w v e in
    let none : is_kid v node.kids ≡ false = false_if_not _ (λ h. (let here = kid_times v node.kids h in omega arith)) in
    let more : parent_of rest v ≡ Some w = is_parent rest w v e (let here : times_kid v node.kids ≡ 0 = omega arith in omega arith) in
    let number : w + 1 ≡ suc w = omega arith in
    position-cons (λ (n : Node). is_kid v n.kids) node rest
    ∙ ap (λ b. cond b (Some 0) (option_map (λ i. i + 1) (parent_of rest v))) none
    ∙ ap (option_map (λ i. i + 1)) more
    ∙ ap Some number

-- a node that is a child is a child of some node
pub record ChildOf (nodes : List Node) (v : ℕ) : Type 0 where
  pub up : ℕ
  pub is : is_kid v (kids_at nodes up) ≡ true

child_of : (nodes : List Node) (v : ℕ) → 0 < times_child v nodes → ChildOf nodes v
unfolding times_child
child_of [] v some = absurd (omega arith)
child_of (node ∷ rest) v some =
    elim (cases_Bool (is_kid v node.kids)) [
      | inl h ↦ record { up = 0; is = h }
      | inr h ↦
          let none : times_kid v node.kids ≡ 0 = kid_never v node.kids h in
          let more = child_of rest v (omega arith) in
          record { up = suc more.up; is = more.is }
    ]

no_parent : (nodes : List Node) (v : ℕ) → times_child v nodes ≡ 0 → parent_of nodes v ≡ None
unfolding times_child
no_parent [] v none = refl
no_parent (node ∷ rest) v none =
    let here : is_kid v node.kids ≡ false = false_if_not _ (λ h. (let some = kid_times v node.kids h in omega arith)) in
    position-cons (λ (n : Node). is_kid v n.kids) node rest
    ∙ ap (λ b. cond b (Some 0) (option_map (λ i. i + 1) (parent_of rest v))) here
    ∙ ap (option_map (λ i. i + 1)) (no_parent rest v (omega arith))

-- ---- children come later
wanted_later : (w : ℕ) (wanted : List ℕ) (nodes : List Node) → are_subtrees w wanted nodes ≡ true → list_all (λ v. nat_le w v) wanted ≡ true
wanted_later w [] nodes e = refl
wanted_later w (v ∷ wanted) [] e = cc
wanted_later w (v ∷ wanted) (node ∷ rest) e =
    let here : v ≡ w = true_eq v w (and_left (v == w) _ e) in
    both (nat_le w v) _ (le_true w v (omega arith))
    (weaker wanted (without_kids node.kids wanted (wanted_later (w + 1) (with_kids node.kids wanted) rest (and_right (v == w) _ e))))
  where
    weaker : (us : List ℕ) → list_all (λ u. nat_le (w + 1) u) us ≡ true → list_all (λ u. nat_le w u) us ≡ true
    weaker [] all = refl
    weaker (u ∷ us) all = let le = true_le (w + 1) u (and_left _ _ all) in both (nat_le w u) _ (le_true w u (omega arith)) (weaker us (and_right _ _ all))

    without_kids : (kids : Option (ℕ × ℕ)) (us : List ℕ) → list_all (λ u. nat_le (w + 1) u) (with_kids kids us) ≡ true
        → list_all (λ u. nat_le (w + 1) u) us ≡ true
    without_kids None us all = all
    without_kids (Some kids) us all = and_right (nat_le (w + 1) kids.1) _ (and_right (nat_le (w + 1) kids.0) _ all)

first_two : (n : ℕ) (kids : Option (ℕ × ℕ)) (wanted : List ℕ) → list_all (λ v. nat_le n v) (with_kids kids wanted) ≡ true
    → IfSome kids (λ k. (n ≤ k.0) × (n ≤ k.1))
first_two n None wanted e = tt
first_two n (Some kids) wanted e =
    (true_le n kids.0 (and_left (nat_le n kids.0) _ e), true_le n kids.1 (and_left (nat_le n kids.1) _ (and_right (nat_le n kids.0) _ e)))

kids_later : (w : ℕ) (wanted : List ℕ) (nodes : List Node) (k : ℕ) → are_subtrees w wanted nodes ≡ true
    → IfSome (kids_at nodes k) (λ kids. (w + k + 1 ≤ kids.0) × (w + k + 1 ≤ kids.1))
kids_later w wanted [] k e = tt
kids_later w [] (node ∷ rest) k e = cc
kids_later w (v ∷ wanted) (node ∷ rest) zero e =
    let same : w + 1 ≡ w + 0 + 1 = omega arith in
    subst (λ n. IfSome node.kids (λ kids. (n ≤ kids.0) × (n ≤ kids.1))) same
    (first_two (w + 1) node.kids wanted (wanted_later (w + 1) (with_kids node.kids wanted) rest (and_right (v == w) _ e)))
kids_later w (v ∷ wanted) (node ∷ rest) (suc k) e =
    let same : w + 1 + k + 1 ≡ w + suc k + 1 = omega arith in
    subst (λ n. IfSome (kids_at rest k) (λ kids. (n ≤ kids.0) × (n ≤ kids.1))) same
    (kids_later (w + 1) (with_kids node.kids wanted) rest k (and_right (v == w) _ e))

-- ---- the left child comes before the right one
kids_apart : (w : ℕ) (wanted : List ℕ) (nodes : List Node) (k : ℕ) → are_subtrees w wanted nodes ≡ true → IfSome (kids_at nodes k) (λ kids. kids.0 < kids.1)
kids_apart w wanted [] k e = tt
kids_apart w [] (node ∷ rest) k e = cc
kids_apart w (v ∷ wanted) (node ∷ rest) (suc k) e = kids_apart (w + 1) (with_kids node.kids wanted) rest k (and_right (v == w) _ e)
kids_apart w (v ∷ wanted) (node ∷ rest) zero e = first node.kids rest (and_right (v == w) _ e)
  where
    first : (o : Option (ℕ × ℕ)) (others : List Node) → are_subtrees (w + 1) (with_kids o wanted) others ≡ true → IfSome o (λ kids. kids.0 < kids.1)
    first None others h = tt
    first (Some kids) [] h = cc
    first (Some kids) (next ∷ more) h =
        let here : kids.0 ≡ w + 1 = true_eq kids.0 (w + 1) (and_left (kids.0 == w + 1) _ h) in
        let later : list_all (λ u. nat_le (w + 1 + 1) u) (with_kids next.kids (kids.1 ∷ wanted)) ≡ true =
        wanted_later (w + 1 + 1) (with_kids next.kids (kids.1 ∷ wanted)) more (and_right (kids.0 == w + 1) _ h) in
        let right : w + 1 + 1 ≤ kids.1 = behind next.kids later in
        omega arith
      where
        behind : (o : Option (ℕ × ℕ)) → list_all (λ u. nat_le (w + 1 + 1) u) (with_kids o (kids.1 ∷ wanted)) ≡ true → w + 1 + 1 ≤ kids.1
        behind None all = true_le (w + 1 + 1) kids.1 (and_left _ _ all)
        behind (Some two) all = true_le (w + 1 + 1) kids.1 (and_left _ _ (and_right (nat_le (w + 1 + 1) two.1) _ (and_right (nat_le (w + 1 + 1) two.0) _ all)))

pub are_kids : (nodes : List Node) → is_tree nodes ≡ true → (w left right : ℕ) → kids_at nodes w ≡ Some (left, right) → AreKids nodes w left right
are_kids nodes tree w left right e =
    let inside : (left < length nodes) × (right < length nodes) =
    subst (λ o. IfSome o (λ kids. (kids.0 < length nodes) × (kids.1 < length nodes))) e (kids_are_nodes nodes w tree) in
    let later : (0 + w + 1 ≤ left) × (0 + w + 1 ≤ right) =
    subst (λ o. IfSome o (λ kids. (0 + w + 1 ≤ kids.0) × (0 + w + 1 ≤ kids.1))) e (kids_later 0 (0 ∷ []) nodes w tree) in
    let apart : left < right = subst (λ o. IfSome o (λ kids. kids.0 < kids.1)) e (kids_apart 0 (0 ∷ []) nodes w tree) in
    let is_left : is_kid left (kids_at nodes w) ≡ true = ap (is_kid left) e ∙ or_left _ _ (eq_true left left refl) in
    let is_right : is_kid right (kids_at nodes w) ≡ true = ap (is_kid right) e ∙ or_right _ _ (eq_true right right refl) in
    record {
      left_under = record {
        there = inside.0;
        parent = is_parent nodes w left is_left (child_once nodes tree left (omega arith) inside.0);
        earlier = omega arith;
      };
      right_under = record {
        there = inside.1;
        parent = is_parent nodes w right is_right (child_once nodes tree right (omega arith) inside.1);
        earlier = omega arith;
      };
      in_order = apart;
    }

pub rooted : (nodes : List Node) → is_tree nodes ≡ true → IsRooted nodes
rooted nodes tree = record {
  root = has_root nodes tree;
  root_has_none = no_parent nodes 0 (root_never nodes tree);
  above = λ v some lt.
      (let once = child_once nodes tree v some lt in
      let up = child_of nodes v (omega arith) in
      let kids = with_kid v (kids_at nodes up.up) refl up.is in
      let later : (0 + up.up + 1 ≤ kids.0.0) × (0 + up.up + 1 ≤ kids.0.1) =
      subst (λ o. IfSome o (λ k. (0 + up.up + 1 ≤ k.0) × (0 + up.up + 1 ≤ k.1))) kids.1 (kids_later 0 (0 ∷ []) nodes up.up tree) in
      record {
        parent = up.up;
        under = record { there = lt; parent = is_parent nodes up.up v up.is once; earlier = earlier up.up v kids.0 later kids.2 };
        kids = kids.0;
        are = kids.1;
        one = kids.2;
      });
}
  where
    with_kid : (v : ℕ) (o : Option (ℕ × ℕ)) {other : Option (ℕ × ℕ)} → other ≡ o → is_kid v o ≡ true
        → (kids : ℕ × ℕ) × (other ≡ Some kids) × ((v ≡ kids.0) ⊎ (v ≡ kids.1))
    with_kid v None same e = cc
    with_kid v (Some kids) same e = (
      kids,
      same,
      elim (or_cases (kids.0 == v) (kids.1 == v) e) [
        | inl h ↦ inl (sym (true_eq kids.0 v h))
        | inr h ↦ inr (sym (true_eq kids.1 v h))
      ],
    )

    earlier : (u v : ℕ) (kids : ℕ × ℕ) → (0 + u + 1 ≤ kids.0) × (0 + u + 1 ≤ kids.1) → (v ≡ kids.0) ⊎ (v ≡ kids.1) → u < v
    earlier u v kids later (inl h) = let a = later.0 in omega arith
    earlier u v kids later (inr h) = let a = later.1 in omega arith
