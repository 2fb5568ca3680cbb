-- The nodes that are met below the root, where no node is a child twice.
use Rattle.std.proofs.Common.{◌≡◌, ◌⊎◌, inl, inr, ℕ, zero, suc, ◌<◌, ◌≤◌, List, [], ◌∷◌, ◌++◌, length, Option, Some, None, refl, sym, ap, subst, append_assoc}
use Rattle.std.proofs.Common.{arith}
use Rattle.std.proofs.lemmas.List.{length-append}
use Rattle.flu_plan.specs.declared.drafts.DraftNode.{DraftNode}
use Rattle.flu_plan.specs.Shape.{kids_at}
use Rattle.flu_plan.proofs.Distinct.{In, Distinct, in_nil, in_head, in_tail, in_cases, in_left, in_right, in_middle, distinct_none, distinct_cons}
use Rattle.flu_plan.proofs.Distinct.{distinct_head, distinct_tail, distinct_middle, distinct_front, distinct_back, distinct_apart, few_below}
use Rattle.flu_plan.proofs.Resolved.{KidsBelow, Known, kid_list, kids_of_draft, children}

abbrev pub kids_list_at : List DraftNode → ℕ → List ℕ
kids_list_at nodes v = kid_list (kids_at nodes v)

-- a child is one of the children
kid_in : (nodes : List DraftNode) (u v : ℕ) → In v (kids_list_at nodes u) → In v (children nodes)
kid_in [] u v h = absurd (in_nil v h)
kid_in (n ∷ nodes) zero v h = in_left v (kids_of_draft n) (children nodes) h
kid_in (n ∷ nodes) (suc u) v h = in_right v (kids_of_draft n) (children nodes) (kid_in nodes u v h)

one_parent : (nodes : List DraftNode) (a b v : ℕ) → Distinct (children nodes) → In v (kids_list_at nodes a) → In v (kids_list_at nodes b) → a ≡ b
one_parent [] a b v d h k = absurd (in_nil v h)
one_parent (n ∷ nodes) zero zero v d h k = refl
one_parent (n ∷ nodes) zero (suc b) v d h k = absurd (distinct_apart v (kids_of_draft n) (children nodes) d h (kid_in nodes b v k))
one_parent (n ∷ nodes) (suc a) zero v d h k = absurd (distinct_apart v (kids_of_draft n) (children nodes) d k (kid_in nodes a v h))
one_parent (n ∷ nodes) (suc a) (suc b) v d h k = ap (λ (m : ℕ). suc m) (one_parent nodes a b v (distinct_back (kids_of_draft n) (children nodes) d) h k)

kids_differ : (nodes : List DraftNode) (u : ℕ) → Distinct (children nodes) → Distinct (kids_list_at nodes u)
kids_differ [] u d = distinct_none ℕ
kids_differ (n ∷ nodes) zero d = distinct_front (kids_of_draft n) (children nodes) d
kids_differ (n ∷ nodes) (suc u) d = kids_differ nodes u (distinct_back (kids_of_draft n) (children nodes) d)

-- These nodes are met, and those are next. All differ and are nodes, and each but the root is a child of one that is met.
pub record Spread (nodes : List DraftNode) (met wanted : List ℕ) : Type 0 where
  pub distinct : Distinct (met ++ wanted)
  pub rooted : (v : ℕ) → In v (met ++ wanted) → (v ≡ 0) ⊎ ((u : ℕ) × In u met × In v (kids_list_at nodes u))
  pub below : (v : ℕ) → In v (met ++ wanted) → v < length nodes

pub spread-start : (nodes : List DraftNode) → 0 < length nodes → Spread nodes [] (0 ∷ [])
spread-start nodes some = record {
  distinct = distinct_cons 0 [] (in_nil 0) (distinct_none ℕ);
  rooted = λ v h. elim (in_cases v 0 [] h) [ inl e ↦ inl e | inr b ↦ absurd (in_nil v b) ];
  below = λ v h. elim (in_cases v 0 [] h) [ inl e ↦ (omega arith) | inr b ↦ absurd (in_nil v b) ];
}

module _ (text : List ℕ) (nodes : List DraftNode) (known : Known text nodes) (differ : Distinct (0 ∷ children nodes)) where
  -- the next node is met
  moved : (v : ℕ) (met wanted : List ℕ) → Spread nodes met (v ∷ wanted) → Spread nodes (met ++ v ∷ []) wanted
  moved v met wanted s =
      let same : (met ++ v ∷ []) ++ wanted ≡ met ++ v ∷ wanted = append_assoc met (v ∷ []) wanted in
      record {
        distinct = subst (λ (l : List ℕ). Distinct l) (sym same) s.distinct;
        rooted = λ w h. elim (s.rooted w (subst (λ (l : List ℕ). In w l) same h)) [ inl e ↦ inl e | inr b ↦ inr (b.0, in_left b.0 met (v ∷ []) b.1, b.2) ];
        below = λ w h. s.below w (subst (λ (l : List ℕ). In w l) same h);
      }

  -- a child of the node that is met is new
  fresh : (v k : ℕ) (met wanted : List ℕ) → Spread nodes met (v ∷ wanted) → In k (kids_list_at nodes v) → In k ((met ++ v ∷ []) ++ wanted) → ⊥
  fresh v k met wanted s kid h =
      let children_apart = distinct_tail 0 (children nodes) differ in
      elim (s.rooted k (subst (λ (l : List ℕ). In k l) (append_assoc met (v ∷ []) wanted) h)) [
        | inl e ↦ distinct_head 0 (children nodes) differ (subst (λ (z : ℕ). In z (children nodes)) e (kid_in nodes v k kid))
        | inr b ↦ distinct_apart v met (v ∷ wanted) s.distinct (subst (λ (z : ℕ). In z met) (one_parent nodes b.0 v k children_apart b.2 kid) b.1)
            (in_head v wanted)
      ]

  with_one : (v k : ℕ) (met wanted : List ℕ) → Spread nodes met wanted → In v met → In k (kids_list_at nodes v) → k < length nodes
      → (In k (met ++ wanted) → ⊥) → Spread nodes met (k ∷ wanted)
  with_one v k met wanted s h kid lt new = record {
    distinct = distinct_middle k met wanted s.distinct new;
    rooted = λ w i. elim (in_middle w k met wanted i) [ inl e ↦ inr (v, h, subst (λ (z : ℕ). In z (kids_list_at nodes v)) (sym e) kid) | inr b ↦ s.rooted w b ];
    below = λ w i. elim (in_middle w k met wanted i) [ inl e ↦ (omega arith) | inr b ↦ s.below w b ];
  }

  spread-kids : (v : ℕ) (met wanted : List ℕ) (kids : Option (ℕ × ℕ)) → kids_at nodes v ≡ kids → Spread nodes met (v ∷ wanted)
      → Spread nodes (met ++ v ∷ []) (kid_list kids ++ wanted)
  unfolding KidsBelow
  spread-kids v met wanted None e s = moved v met wanted s
  spread-kids v met wanted (Some kids) e s =
      let met_now = in_right v met (v ∷ []) (in_head v []) in
      let kids_here : kids_list_at nodes v ≡ kids.0 ∷ kids.1 ∷ [] = ap kid_list e in
      let left : In kids.0 (kids_list_at nodes v) = subst (λ (l : List ℕ). In kids.0 l) (sym kids_here) (in_head kids.0 (kids.1 ∷ [])) in
      let right : In kids.1 (kids_list_at nodes v) = subst (λ (l : List ℕ). In kids.1 l) (sym kids_here)
      (in_tail kids.1 kids.0 (kids.1 ∷ []) (in_head kids.1 [])) in
      let apart = distinct_head kids.0 (kids.1 ∷ [])
      (subst (λ (l : List ℕ). Distinct l) kids_here (kids_differ nodes v (distinct_tail 0 (children nodes) differ))) in
      let low : KidsBelow (length nodes) (Some kids) = subst (λ (k : Option (ℕ × ℕ)). KidsBelow (length nodes) k) e (known.below v) in
      let second = with_one v kids.1 (met ++ v ∷ []) wanted (moved v met wanted s) met_now right low.1 (fresh v kids.1 met wanted s right) in
      with_one v kids.0 (met ++ v ∷ []) (kids.1 ∷ wanted) second met_now left low.0
      (λ h. elim (in_middle kids.0 kids.1 (met ++ v ∷ []) wanted h)
      [ inl same ↦ apart (subst (λ (z : ℕ). In z (kids.1 ∷ [])) (sym same) (in_head kids.1 [])) | inr b ↦ fresh v kids.0 met wanted s left b ])

  pub spread-next : (v : ℕ) (met wanted : List ℕ) → Spread nodes met (v ∷ wanted) → Spread nodes (met ++ v ∷ []) (kids_list_at nodes v ++ wanted)
  spread-next v met wanted s = spread-kids v met wanted (kids_at nodes v) refl s

  -- where as many are met as there are nodes, none is wanted
  pub none_wanted : (met wanted : List ℕ) → Spread nodes met wanted → length nodes ≤ length met → wanted ≡ []
  none_wanted met [] s le = refl
  none_wanted met (v ∷ wanted) s le =
      let few = few_below (length nodes) (met ++ v ∷ wanted) s.distinct s.below in
      let parts = length-append met (v ∷ wanted) in
      absurd (omega arith)
