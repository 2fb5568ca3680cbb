-- Which nodes of a tree are within which.
use Rattle.std.proofs.Common.{◌≡◌, ◌<◌, ◌≤◌, ℕ, zero, suc, true, false, Some, None, List, [], ◌∷◌, length, ◌⊎◌, inl, inr, refl, sym, ap, ◌∙◌, arith}
use Rattle.std.specs.Prelude.{◌==◌, ◌||◌}
use Rattle.std.specs.List.{list_any}
use Rattle.std.proofs.lemmas.Bool.{cases_Bool, cases_eq, or_left, or_right, or_cases}
use Rattle.flu_lemmas.proofs.Searches.{eq_true}
use Rattle.flu_lemmas.proofs.Tests.{true_eq, false_if_not, not_both}
use Rattle.flu_model.specs.declared.plans.Node.{Node}
use Rattle.flu_model.specs.Owners.{parent_of, climb, path_up, is_within}
use Rattle.flu_deps.specs.Owned.{kids_at}
use Rattle.flu_deps.specs.Trees.{IsUnder, AreKids, IsRooted, AreApart, Siblings}

climb_none : (n : ℕ) (nodes : List Node) → climb n nodes None ≡ []
climb_none zero nodes = refl
climb_none (suc n) nodes = refl

module _ (nodes : List Node) (tree : IsRooted nodes) where
  -- ---- paths
  climb_fuel : (f g v : ℕ) → v < f → v < g → v < length nodes → climb f nodes (Some v) ≡ climb g nodes (Some v)
  climb_fuel zero g v a b lt = absurd (omega arith)
  climb_fuel (suc f) zero v a b lt = absurd (omega arith)
  climb_fuel (suc f) (suc g) v a b lt =
      elim (cases_eq v 0) [
        | inl root ↦
            let none : parent_of nodes v ≡ None = ap (parent_of nodes) root ∙ tree.root_has_none in
            ap (λ o. v ∷ climb f nodes o) none ∙ ap (λ us. v ∷ us) (climb_none f nodes ∙ sym (climb_none g nodes)) ∙ sym (ap (λ o. v ∷ climb g nodes o) none)
        | inr other ↦
            let up = tree.above v (omega arith) lt in
            let earlier = up.under.earlier in
            ap (λ o. v ∷ climb f nodes o) up.under.parent
            ∙ ap (λ us. v ∷ us) (climb_fuel f g up.parent (omega arith) (omega arith) (omega arith))
            ∙ sym (ap (λ o. v ∷ climb g nodes o) up.under.parent)
      ]

  pub path_root : path_up nodes 0 ≡ 0 ∷ []
  path_root = climb_fuel (length nodes) (suc zero) 0 tree.root (omega arith) tree.root

  pub path_step : (u v : ℕ) → IsUnder nodes u v → path_up nodes v ≡ v ∷ path_up nodes u
  path_step u v under =
      let there = under.there in
      climb_fuel (length nodes) (suc (length nodes)) v there (omega arith) there ∙ ap (λ o. v ∷ climb (length nodes) nodes o) under.parent

  pub path_first : (v : ℕ) → v < length nodes → (rest : List ℕ) × (path_up nodes v ≡ v ∷ rest)
  path_first v lt =
      elim (cases_eq v 0) [
        | inl root ↦ ([], ap (path_up nodes) root ∙ path_root ∙ ap (λ n. n ∷ []) (sym root))
        | inr other ↦ let up = tree.above v (omega arith) lt in (path_up nodes up.parent, path_step up.parent v up.under)
      ]

  -- ---- within
  pub within_itself : (v : ℕ) → v < length nodes → is_within nodes v v ≡ true
  within_itself v lt = let path = path_first v lt in ap (list_any (λ u. u == v)) path.1 ∙ or_left (v == v) _ (eq_true v v refl)

  pub within_step : (w u v : ℕ) → IsUnder nodes u v → is_within nodes w v ≡ ((v == w) || is_within nodes w u)
  within_step w u v under = ap (list_any (λ x. x == w)) (path_step u v under)

  pub within_up : (w u v : ℕ) → IsUnder nodes u v → is_within nodes w u ≡ true → is_within nodes w v ≡ true
  within_up w u v under e = within_step w u v under ∙ or_right (v == w) _ e

  -- what is within a node is it, or its parent is within the node
  pub within_cases : (w u v : ℕ) → IsUnder nodes u v → is_within nodes w v ≡ true → (v ≡ w) ⊎ (is_within nodes w u ≡ true)
  within_cases w u v under e =
      elim (or_cases (v == w) (is_within nodes w u) (sym (within_step w u v under) ∙ e)) [
        | inl h ↦ inl (true_eq v w h)
        | inr h ↦ inr h
      ]

  pub within_root : (w : ℕ) → is_within nodes w 0 ≡ true → 0 ≡ w
  within_root w e =
      elim (or_cases (0 == w) false (sym (ap (list_any (λ x. x == w)) path_root) ∙ e)) [
        | inl h ↦ true_eq 0 w h
        | inr h ↦ cc
      ]

  within_later : (fuel w v : ℕ) → v < fuel → v < length nodes → is_within nodes w v ≡ true → w ≤ v
  within_later zero w v a lt e = absurd (omega arith)
  within_later (suc fuel) w v a lt e =
      elim (cases_eq v 0) [
        | inl root ↦ let same = within_root w (sym (ap (is_within nodes w) root) ∙ e) in omega arith
        | inr other ↦
            let up = tree.above v (omega arith) lt in
            let earlier = up.under.earlier in
            elim (within_cases w up.parent v up.under e) [
              | inl same ↦ omega arith
              | inr h ↦ let le = within_later fuel w up.parent (omega arith) (omega arith) h in omega arith
            ]
      ]

  pub within_is_later : (w v : ℕ) → v < length nodes → is_within nodes w v ≡ true → w ≤ v
  within_is_later w v lt e = within_later (suc v) w v (omega arith) lt e

  all_in_root : (fuel v : ℕ) → v < fuel → v < length nodes → is_within nodes 0 v ≡ true
  all_in_root zero v a lt = absurd (omega arith)
  all_in_root (suc fuel) v a lt =
      elim (cases_eq v 0) [
        | inl root ↦ ap (is_within nodes 0) root ∙ within_itself 0 tree.root
        | inr other ↦
            let up = tree.above v (omega arith) lt in
            let earlier = up.under.earlier in
            within_up 0 up.parent v up.under (all_in_root fuel up.parent (omega arith) (omega arith))
      ]

  pub in_root : (v : ℕ) → v < length nodes → is_within nodes 0 v ≡ true
  in_root v lt = all_in_root (suc v) v (omega arith) lt

  through : (fuel a b v : ℕ) → v < fuel → v < length nodes → is_within nodes b v ≡ true → is_within nodes a b ≡ true → is_within nodes a v ≡ true
  through zero a b v f lt hb hab = absurd (omega arith)
  through (suc fuel) a b v f lt hb hab =
      elim (cases_eq v 0) [
        | inl root ↦
            let same = within_root b (sym (ap (is_within nodes b) root) ∙ hb) in
            ap (is_within nodes a) (root ∙ same) ∙ hab
        | inr other ↦
            let up = tree.above v (omega arith) lt in
            let earlier = up.under.earlier in
            elim (within_cases b up.parent v up.under hb) [
              | inl same ↦ ap (is_within nodes a) same ∙ hab
              | inr h ↦ within_up a up.parent v up.under (through fuel a b up.parent (omega arith) (omega arith) h hab)
            ]
      ]

  pub within_through : (a b v : ℕ) → v < length nodes → is_within nodes b v ≡ true → is_within nodes a b ≡ true → is_within nodes a v ≡ true
  within_through a b v lt hb hab = through (suc v) a b v (omega arith) lt hb hab

  -- what is within a child is within its parent
  pub within_parent : (u w v : ℕ) → IsUnder nodes u w → v < length nodes → is_within nodes w v ≡ true → is_within nodes u v ≡ true
  within_parent u w v under lt e =
      let there = under.there in
      let earlier = under.earlier in
      within_through u w v lt e (within_up u u w under (within_itself u (omega arith)))

  -- of two nodes above one, one is above the other
  lines : (fuel a b v : ℕ) → v < fuel → v < length nodes → is_within nodes a v ≡ true → is_within nodes b v ≡ true
      → (is_within nodes a b ≡ true) ⊎ (is_within nodes b a ≡ true)
  lines zero a b v f lt ha hb = absurd (omega arith)
  lines (suc fuel) a b v f lt ha hb =
      elim (cases_eq v 0) [
        | inl root ↦
            let one = within_root a (sym (ap (is_within nodes a) root) ∙ ha) in
            inr (ap (is_within nodes b) (sym one ∙ sym root) ∙ hb)
        | inr other ↦
            let up = tree.above v (omega arith) lt in
            let earlier = up.under.earlier in
            elim (within_cases a up.parent v up.under ha) [
              | inl same ↦ inr (ap (is_within nodes b) (sym same) ∙ hb)
              | inr ga ↦ elim (within_cases b up.parent v up.under hb) [
                | inl same ↦ inl (ap (is_within nodes a) (sym same) ∙ ha)
                | inr gb ↦ lines fuel a b up.parent (omega arith) (omega arith) ga gb
              ]
            ]
      ]

  pub on_one_line : (a b v : ℕ) → v < length nodes → is_within nodes a v ≡ true → is_within nodes b v ≡ true
      → (is_within nodes a b ≡ true) ⊎ (is_within nodes b a ≡ true)
  on_one_line a b v lt ha hb = lines (suc v) a b v (omega arith) lt ha hb

  -- siblings are not within each other
  pub sibling_not_within : (w x y : ℕ) → IsUnder nodes w x → IsUnder nodes w y → (x ≡ y → ⊥) → is_within nodes x y ≡ true → ⊥
  sibling_not_within w x y under_x under_y apart e =
      elim (within_cases x w y under_y e) [
        | inl same ↦ apart (sym same)
        | inr h ↦
            let earlier = under_x.earlier in
            let there = under_y.there in
            let later = under_y.earlier in
            let le = within_is_later x w (omega arith) h in
            omega arith
      ]

  pub not_in_both : (w x y v : ℕ) → IsUnder nodes w x → IsUnder nodes w y → (x ≡ y → ⊥) → v < length nodes → is_within nodes x v ≡ true
      → is_within nodes y v ≡ true → ⊥
  not_in_both w x y v under_x under_y apart lt hx hy =
      elim (on_one_line x y v lt hx hy) [
        | inl h ↦ sibling_not_within w x y under_x under_y apart h
        | inr h ↦ sibling_not_within w y x under_y under_x (λ same. apart (sym same)) h
      ]

  same_node : (a b : ℕ) → Some a ≡ Some b → a ≡ b
  same_node a b e = cc

  same_kids : (a b : ℕ × ℕ) → Some a ≡ Some b → a ≡ b
  same_kids a b e = cc

  -- what is within a node is it, or within one of its children
  kid_within : (fuel w left right v : ℕ) → v < fuel → v < length nodes → kids_at nodes w ≡ Some (left, right) → is_within nodes w v ≡ true
      → (v ≡ w) ⊎ ((is_within nodes left v ≡ true) ⊎ (is_within nodes right v ≡ true))
  kid_within zero w left right v f lt kids e = absurd (omega arith)
  kid_within (suc fuel) w left right v f lt kids e =
      elim (cases_eq v 0) [
        | inl root ↦ inl (root ∙ within_root w (sym (ap (is_within nodes w) root) ∙ e))
        | inr other ↦
            let up = tree.above v (omega arith) lt in
            let earlier = up.under.earlier in
            elim (within_cases w up.parent v up.under e) [
              | inl same ↦ inl same
              | inr h ↦ elim (kid_within fuel w left right up.parent (omega arith) (omega arith) kids h) [
                | inl same ↦
                    let pair : up.kids ≡ (left, right) = same_kids up.kids (left, right) (sym up.are ∙ ap (kids_at nodes) same ∙ kids) in
                    inr (elim up.one [
                      | inl is ↦ inl (ap (λ x. is_within nodes x v) (sym (is ∙ ap (λ (k : ℕ × ℕ). k.0) pair)) ∙ within_itself v lt)
                      | inr is ↦ inr (ap (λ x. is_within nodes x v) (sym (is ∙ ap (λ (k : ℕ × ℕ). k.1) pair)) ∙ within_itself v lt)
                    ])
                | inr (inl h2) ↦ inr (inl (within_up left up.parent v up.under h2))
                | inr (inr h2) ↦ inr (inr (within_up right up.parent v up.under h2))
              ]
            ]
      ]

  pub within_kid : (w left right v : ℕ) → v < length nodes → kids_at nodes w ≡ Some (left, right) → is_within nodes w v ≡ true
      → (v ≡ w) ⊎ ((is_within nodes left v ≡ true) ⊎ (is_within nodes right v ≡ true))
  within_kid w left right v lt kids e = kid_within (suc v) w left right v (omega arith) lt kids e

  -- ---- nodes of which neither is within the other
  pub left_first : (w left right : ℕ) → kids_at nodes w ≡ Some (left, right) → AreKids nodes w left right → Siblings nodes w left right
  left_first w left right e kids = record {
    first = kids.left_under;
    second = kids.right_under;
    differ = λ same. (let before = kids.in_order in absurd (omega arith));
    cover = λ v lt h. within_kid w left right v lt e h;
  }

  pub right_first : (w left right : ℕ) → kids_at nodes w ≡ Some (left, right) → AreKids nodes w left right → Siblings nodes w right left
  right_first w left right e kids = record {
    first = kids.right_under;
    second = kids.left_under;
    differ = λ same. (let before = kids.in_order in absurd (omega arith));
    cover = λ v lt h. elim (within_kid w left right v lt e h) [
      | inl here ↦ inl here
      | inr (inl there) ↦ inr (inr there)
      | inr (inr there) ↦ inr (inl there)
    ];
  }

  -- the parent is not within its child
  parent_not_within : (w x : ℕ) → IsUnder nodes w x → is_within nodes x w ≡ true → ⊥
  parent_not_within w x under h =
      let earlier = under.earlier in
      let there = under.there in
      let le = within_is_later x w (omega arith) h in
      omega arith

  -- what is apart from a child is apart from its parent, or within its sibling
  pub apart_cases : (w x y v : ℕ) → Siblings nodes w x y → v < length nodes → AreApart nodes x v → AreApart nodes w v ⊎ (is_within nodes y v ≡ true)
  apart_cases w x y v s lt apart =
      elim (cases_Bool (is_within nodes w v)) [
        | inl h ↦ elim (s.cover v lt h) [
          | inl same ↦
              let there = s.first.there in
              let earlier = s.first.earlier in
              absurd (not_both _ (ap (λ n. is_within nodes n x) same ∙ within_up w w x s.first (within_itself w (omega arith))) apart.1)
          | inr (inl there) ↦ absurd (not_both _ there apart.0)
          | inr (inr there) ↦ inr there
        ]
        | inr h ↦ inl (h, false_if_not _ (λ g. not_both _ (within_up v w x s.first g) apart.1))
      ]

  pub apart_kid : (w x v : ℕ) → IsUnder nodes w x → v < length nodes → AreApart nodes w v → AreApart nodes x v
  apart_kid w x v under lt apart = (
    false_if_not _ (λ h. not_both _ (within_parent w x v under lt h) apart.0),
    false_if_not _ (λ h. (elim (within_cases v w x under h) [
      | inl same ↦ not_both _ (ap (is_within nodes w) (sym same)
          ∙ within_up w w x under (within_itself w (let a = under.there in let b = under.earlier in omega arith))) apart.0
      | inr up ↦ not_both _ up apart.1
    ])),
  )

  pub apart_sibling : (w x y v : ℕ) → Siblings nodes w x y → v < length nodes → is_within nodes y v ≡ true → AreApart nodes x v
  apart_sibling w x y v s lt inside = (
    false_if_not _ (λ h. not_in_both w x y v s.first s.second s.differ lt h inside),
    false_if_not _ (λ h. (elim (within_cases v w x s.first h) [
      | inl same ↦ sibling_not_within w y x s.second s.first (λ e. s.differ (sym e)) (ap (is_within nodes y) same ∙ inside)
      | inr up ↦ parent_not_within w y s.second (within_through y v w (let a = s.first.there in let b = s.first.earlier in omega arith) up inside)
    ])),
  )

  -- what is within a node is apart from what the node is apart from
  pub within_is_apart : (w a b : ℕ) → a < length nodes → b < length nodes → is_within nodes w a ≡ true → AreApart nodes w b → AreApart nodes a b
  within_is_apart w a b a_there b_there inside apart = (
    false_if_not _ (λ h. not_both _ (within_through w a b b_there h inside) apart.0),
    false_if_not _ (λ h. (elim (on_one_line w b a a_there inside h) [
      | inl g ↦ not_both _ g apart.0
      | inr g ↦ not_both _ g apart.1
    ])),
  )
