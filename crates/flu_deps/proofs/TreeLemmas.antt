-- The children of a node of a tree are nodes of it.
use Rattle.std.proofs.Common.{◌≡◌, ◌<◌, ◌+◌, ℕ, zero, suc, true, Option, Some, None, List, [], ◌∷◌, length, refl, sym, ap, subst, ◌∙◌, arith}
use Rattle.std.specs.Prelude.{nat_lt, ◌==◌, IfSome}
use Rattle.std.specs.List.{list_all}
use Rattle.flu_lemmas.proofs.Tests.{and_left, and_right, both, true_eq, true_lt, lt_true}
use Rattle.flu_model.specs.declared.plans.Node.{Node}
use Rattle.flu_model.specs.PlanRules.{with_kids, are_subtrees, is_tree}
use Rattle.flu_deps.specs.Owned.{kids_at}

without_kids : (n : ℕ) (kids : Option (ℕ × ℕ)) (wanted : List ℕ) → list_all (λ v. nat_lt v n) (with_kids kids wanted) ≡ true
    → list_all (λ v. nat_lt v n) wanted ≡ true
without_kids n None wanted e = e
without_kids n (Some kids) wanted e = and_right (nat_lt kids.1 n) _ (and_right (nat_lt kids.0 n) _ e)

-- what is wanted is there
wanted_within : (w : ℕ) (wanted : List ℕ) (nodes : List Node) → are_subtrees w wanted nodes ≡ true → list_all (λ v. nat_lt v (w + length nodes)) wanted ≡ true
wanted_within w [] nodes e = refl
wanted_within w (v ∷ wanted) [] e = cc
wanted_within w (v ∷ wanted) (node ∷ rest) e =
    let here : v ≡ w = true_eq v w (and_left (v == w) _ e) in
    let size : w + 1 + length rest ≡ w + length (node ∷ rest) = omega arith in
    both (nat_lt v (w + length (node ∷ rest))) _ (lt_true v (w + length (node ∷ rest)) (omega arith))
    (ap (λ n. list_all (λ u. nat_lt u n) wanted) (sym size)
    ∙ without_kids (w + 1 + length rest) node.kids wanted (wanted_within (w + 1) (with_kids node.kids wanted) rest (and_right (v == w) _ e)))

first_two : (n : ℕ) (kids : Option (ℕ × ℕ)) (wanted : List ℕ) → list_all (λ v. nat_lt v n) (with_kids kids wanted) ≡ true
    → IfSome kids (λ k. (k.0 < n) × (k.1 < n))
first_two n None wanted e = tt
first_two n (Some kids) wanted e =
    (true_lt kids.0 n (and_left (nat_lt kids.0 n) _ e), true_lt kids.1 n (and_left (nat_lt kids.1 n) _ (and_right (nat_lt kids.0 n) _ e)))

kids_of_subtrees : (w : ℕ) (wanted : List ℕ) (nodes : List Node) (k : ℕ) → are_subtrees w wanted nodes ≡ true
    → IfSome (kids_at nodes k) (λ kids. (kids.0 < w + length nodes) × (kids.1 < w + length nodes))
kids_of_subtrees w wanted [] k e = tt
kids_of_subtrees w [] (node ∷ rest) k e = cc
kids_of_subtrees w (v ∷ wanted) (node ∷ rest) zero e =
    let size : w + 1 + length rest ≡ w + length (node ∷ rest) = omega arith in
    first_two (w + length (node ∷ rest)) node.kids wanted
    (ap (λ n. list_all (λ u. nat_lt u n) (with_kids node.kids wanted)) (sym size)
    ∙ wanted_within (w + 1) (with_kids node.kids wanted) rest (and_right (v == w) _ e))
kids_of_subtrees w (v ∷ wanted) (node ∷ rest) (suc k) e =
    let size : w + 1 + length rest ≡ w + length (node ∷ rest) = omega arith in
    subst (λ n. IfSome (kids_at rest k) (λ kids. (kids.0 < n) × (kids.1 < n))) size
    (kids_of_subtrees (w + 1) (with_kids node.kids wanted) rest k (and_right (v == w) _ e))

pub kids_are_nodes : (nodes : List Node) (w : ℕ) → is_tree nodes ≡ true → IfSome (kids_at nodes w) (λ kids. (kids.0 < length nodes) × (kids.1 < length nodes))
kids_are_nodes nodes w e =
    let size : 0 + length nodes ≡ length nodes = omega arith in
    subst (λ n. IfSome (kids_at nodes w) (λ kids. (kids.0 < n) × (kids.1 < n))) size (kids_of_subtrees 0 (0 ∷ []) nodes w e)
