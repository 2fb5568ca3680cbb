-- How many nodes are in the subtree of a node and in those of its children.
use Rattle.std.proofs.Common.{◌≡◌, ◌<◌, ◌≤◌, ◌+◌, ℕ, Bool, true, false, cond, Some, List, length, refl, sym, ap, subst, ◌∙◌, arith}
use Rattle.std.specs.Prelude.{◌==◌, ◌||◌}
use Rattle.std.specs.List.{range_with_len}
use Rattle.std.proofs.lemmas.List.FromFn.{length-range_with_len}
use Rattle.std.proofs.lemmas.List.Sums.{count_by-le-length}
use Rattle.flu_lemmas.proofs.Tests.{false_if_not, true_eq}
use Rattle.flu_lemmas.proofs.Totals.{sum_by-total, total-plus}
use Rattle.flu_lemmas.specs.Totals.{total}
use Rattle.flu_model.specs.declared.plans.Node.{Node}
use Rattle.flu_model.specs.Owners.{is_within}
use Rattle.flu_deps.specs.Owned.{kids_at}
use Rattle.flu_deps.specs.Trees.{AreKids, HasSubtrees, IsOrdered, NodesAreOrdered, SubtreesAreOfChildren}
use Rattle.flu_net.specs.Measure.{size}
use Rattle.flu_net.proofs.Sums.{once_in_run, total_le}

-- the laws of subtrees
pub record TreesBelow : Type 0 where
  pub subtrees : SubtreesAreOfChildren
  pub order : NodesAreOrdered

one_of_three : (a b c d : Bool) → d ≡ (a || (b || c)) → (a ≡ true → b ≡ false) → (a ≡ true → c ≡ false) → (b ≡ true → c ≡ false)
    → cond {A = ℕ} a 1 0 + (cond b 1 0 + cond c 1 0) ≤ cond d 1 0
one_of_three true true c d e p q r = cc (p refl)
one_of_three true false true d e p q r = cc (q refl)
one_of_three true false false d e p q r = subst (λ x. 1 + (0 + 0) ≤ cond {A = ℕ} x 1 0) (sym e) (omega arith)
one_of_three false true true d e p q r = cc (r refl)
one_of_three false true false d e p q r = subst (λ x. 0 + (1 + 0) ≤ cond {A = ℕ} x 1 0) (sym e) (omega arith)
one_of_three false false true d e p q r = subst (λ x. 0 + (0 + 1) ≤ cond {A = ℕ} x 1 0) (sym e) (omega arith)
one_of_three false false false d e p q r = omega arith

module _ (nodes : List Node) (order : IsOrdered nodes) where
  is_in : ℕ → ℕ → ℕ
  is_in w v = cond (is_within nodes w v) 1 0

  size_total : (w : ℕ) → size nodes w ≡ total (is_in w) (range_with_len 0 (length nodes))
  unfolding is_in
  size_total w = sum_by-total (λ v. cond (is_within nodes w v) 1 0) (range_with_len 0 (length nodes))

  pub size_most : (w : ℕ) → size nodes w ≤ length nodes
  size_most w =
      let most = count_by-le-length (is_within nodes w) (range_with_len 0 (length nodes)) in
      let long = length-range_with_len 0 (length nodes) in
      omega arith

  pub size_some : (w : ℕ) → w < length nodes → 1 ≤ size nodes w
  unfolding is_in
  size_some w lt =
      let once = once_in_run (length nodes) w lt in
      let more = total_le (λ v. cond (v == w) 1 0) (is_in w) 0 (length nodes) (λ v high. itself v (v == w) refl) in
      let is = size_total w in
      omega arith
    where
      itself : (v : ℕ) (b : Bool) → (v == w) ≡ b → cond {A = ℕ} b 1 0 ≤ is_in w v
      itself v false e = omega arith
      itself v true e =
          let here : is_within nodes w v ≡ true = ap (is_within nodes w) (true_eq v w e) ∙ order.itself w lt in
          subst (λ x. 1 ≤ cond {A = ℕ} x 1 0) (sym here) (omega arith)

  -- a node with children has them and what is below them in its subtree, and itself
  pub size_kids : HasSubtrees nodes → (w l r : ℕ) → AreKids nodes w l r → kids_at nodes w ≡ Some (l, r) → w < length nodes
      → 1 + (size nodes l + size nodes r) ≤ size nodes w
  unfolding is_in
  size_kids trees w l r under are lt =
      let once = once_in_run (length nodes) w lt in
      let all = total_le (λ v. cond (v == w) 1 0 + (is_in l v + is_in r v)) (is_in w) 0 (length nodes) (λ v high. three v (omega arith)) in
      let two = total-plus (λ v. cond (v == w) 1 0) (λ v. is_in l v + is_in r v) (range_with_len 0 (length nodes)) in
      let kids_two = total-plus (is_in l) (is_in r) (range_with_len 0 (length nodes)) in
      let at_w = size_total w in
      let at_l = size_total l in
      let at_r = size_total r in
      omega arith
    where
      below : (v x : ℕ) → v < length nodes → w < x → (v == w) ≡ true → is_within nodes x v ≡ false
      below v x high later e =
          let same = true_eq v w e in
          false_if_not _ (λ inside. (let le = order.later x v high inside in omega arith))

      three : (v : ℕ) → v < length nodes → cond {A = ℕ} (v == w) 1 0 + (is_in l v + is_in r v) ≤ is_in w v
      three v high =
          one_of_three (v == w) (is_within nodes l v) (is_within nodes r v) (is_within nodes w v)
          (trees.inner w l r v high are) (below v l high under.left_under.earlier) (below v r high under.right_under.earlier) (trees.apart w l r v high are)
