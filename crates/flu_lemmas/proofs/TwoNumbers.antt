-- Values that are made of two numbers, as cells and tags are: when two are equal, and the order by the one number and then the other.
use Rattle.std.proofs.Common.{◌≡◌, ℕ, true, false, refl, ap, ◌∙◌, arith}
use Rattle.std.specs.Prelude.{◌==◌, ◌&&◌}
use Rattle.std.specs.Cmp.{IsTotalOrder, IsStrictWeakOrder}
use Rattle.std.specs.Ordering.{nat_cmp, ordering_then, is_lt}
use Rattle.std.specs.declared.cmp.Ordering.{Ordering}
use Rattle.std.specs.declared.cmp.Ordering.TheVariants.{Equal}
use Rattle.std.proofs.lemmas.Bool.Decides.{nat_tests}
use Rattle.std.proofs.lemmas.Cmp.{on_total, then_total, nat_cmp_total, tied_itself, by_ranked, ranked}
use Rattle.std.proofs.lemmas.List.MinMax.{ranks_by}
use Rattle.flu_lemmas.proofs.Sorting.{both_equal}
use Rattle.flu_lemmas.proofs.Tests.{and_left, and_right, true_eq}

-- equal numbers make equal values
pub made_alike : {X : Type 0} (make : ℕ → ℕ → X) (a b c d : ℕ) → ((a == c) && (b == d)) ≡ true → make a b ≡ make c d
made_alike make a b c d e =
    let first : a ≡ c = true_eq a c (and_left (a == c) (b == d) e) in
    let second : b ≡ d = true_eq b d (and_right (a == c) (b == d) e) in
    λ i. make (first i) (second i)

-- ---- the order of values by a first number and then a second
abbrev pub by_two : {X : Type 0} → (X → ℕ) → (X → ℕ) → X → X → Ordering
by_two first second x y = ordering_then (nat_cmp (first x) (first y)) (nat_cmp (second x) (second y))

pub by_two-total : {X : Type 0} (first second : X → ℕ) → IsTotalOrder (by_two first second)
by_two-total first second = then_total (on_total first nat_cmp_total) (on_total second nat_cmp_total)

pub by_two-ranks : {X : Type 0} (first second : X → ℕ) → IsStrictWeakOrder (λ x y. is_lt (by_two first second x y))
by_two-ranks first second = ranks_by (by_two-total first second) (λ x. x)

pub not_before_itself : {X : Type 0} (first second : X → ℕ) (x : X) → is_lt (by_two first second x x) ≡ false
not_before_itself first second x = ap is_lt (tied_itself (by_two-total first second) x)

number_ties : (m n : ℕ) → nat_cmp m n ≡ Equal → m ≡ n
number_ties m n e = by_ranked _ _ _ (nat_cmp m n) (ranked m n (nat_cmp m n) refl) (λ o h. cc) (λ o h. h) (λ o h. cc)

-- what ties in it has equal numbers
pub by_two-ties : {X : Type 0} (first second : X → ℕ) (x y : X) → by_two first second x y ≡ Equal → (first x ≡ first y) × (second x ≡ second y)
by_two-ties first second x y e =
    let both = both_equal (nat_cmp (first x) (first y)) (nat_cmp (second x) (second y)) e in
    (number_ties (first x) (first y) both.0, number_ties (second x) (second y) both.1)

-- nothing is before what has the same first number and 0 as the second
pub none_before_zero : (m n : ℕ) → is_lt (ordering_then (nat_cmp m m) (nat_cmp n 0)) ≡ false
none_before_zero m n = ap (λ o. is_lt (ordering_then o (nat_cmp n 0))) (tied_itself nat_cmp_total m) ∙ no_less n
  where
    no_less : (k : ℕ) → is_lt (nat_cmp k 0) ≡ false
    no_less k = grind (arith, nat_tests)
