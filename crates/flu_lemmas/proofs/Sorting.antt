-- A list that is put in order is sorted and a permutation, and where elements that compare equal are equal it is the only such list.
use Rattle.std.proofs.Common.{◌≡◌, ◌<◌, ◌+◌, ℕ, zero, suc, Bool, true, false, cond, List, [], ◌∷◌, map, length, get_or, refl, sym, ap, ◌∙◌, arith}
use Rattle.std.specs.Prelude.{⊤, sum_by, Contains, IsSorted, IsPermutation}
use Rattle.std.specs.Cmp.{IsTotalOrder, IsStrictWeakOrder}
use Rattle.std.specs.List.{All, AllByRecursion}
use Rattle.std.specs.List.Sorted.{IsSortedBy}
use Rattle.std.specs.Ordering.{is_lt, ordering_reverse, ordering_then}
use Rattle.std.specs.declared.cmp.Ordering.{Ordering}
use Rattle.std.specs.declared.cmp.Ordering.TheVariants.{Less, Equal, Greater}
use native.Mathlib.Numerals.{unary_clauses}
use Rattle.std.proofs.lemmas.List.{get_or-map, length-map}
use Rattle.std.proofs.lemmas.List.Elements.{recursion_from_All, All-contains_itself}
use Rattle.std.proofs.lemmas.List.Sums.{sum_by-cons}
use Rattle.std.proofs.lemmas.List.Sorted.{IsPermutation-refl, IsPermutation-sym, IsPermutation-trans, IsPermutation-cons, IsPermutation-middle, All-permutation}
use Rattle.std.proofs.lemmas.List.Sorted.{Contains-permutation, sum_by-IsPermutation, sorted_far, ranks_by}
use Rattle.flu_lemmas.specs.Sorting.{put_in_order, in_order}

-- ---- the elements stay
put_in_order-permutation : {X : Type 0} (before : X → X → Bool) (x : X) (ys : List X) → IsPermutation (x ∷ ys) (put_in_order before x ys)
put_in_order-permutation before x [] = IsPermutation-refl (x ∷ [])
put_in_order-permutation before x (y ∷ ys) =
    elim (before x y) as (λ b. IsPermutation (x ∷ y ∷ ys) (cond b (x ∷ y ∷ ys) (y ∷ put_in_order before x ys))) [
      | true ↦ IsPermutation-refl (x ∷ y ∷ ys)
      | false ↦ IsPermutation-trans (x ∷ y ∷ ys) (y ∷ x ∷ ys) (y ∷ put_in_order before x ys)
          (IsPermutation-sym (y ∷ x ∷ ys) (x ∷ y ∷ ys) (IsPermutation-middle (y ∷ []) x ys))
          (IsPermutation-cons y (x ∷ ys) (put_in_order before x ys) (put_in_order-permutation before x ys))
    ]

pub in_order-permutation : {X : Type 0} (before : X → X → Bool) (xs : List X) → IsPermutation xs (in_order before xs)
in_order-permutation before [] = IsPermutation-refl []
in_order-permutation before (x ∷ xs) =
    IsPermutation-trans (x ∷ xs) (x ∷ in_order before xs) (in_order before (x ∷ xs))
    (IsPermutation-cons x xs (in_order before xs) (in_order-permutation before xs))
    (put_in_order-permutation before x (in_order before xs))

-- ---- sorted lists by recursion: no element is less than an earlier one
abbrev pub IsRising : {X : Type 0} → (X → X → Bool) → List X → Type 0
IsRising lt [] = ⊤
IsRising lt (x ∷ xs) = AllByRecursion (λ y. lt y x ≡ false) xs × IsRising lt xs

sorted_rest : {X : Type 0} (lt : X → X → Bool) (x : X) (xs : List X) → IsSortedBy lt (x ∷ xs) → IsSortedBy lt xs
sorted_rest lt x xs up = λ k d low high. simp unary_clauses (simp unary_clauses at (up (suc k) d (omega arith) (omega arith)))

pub rising_from_sorted : {X : Type 0} (lt : X → X → Bool) → IsStrictWeakOrder lt → (xs : List X) → IsSortedBy lt xs → IsRising lt xs
rising_from_sorted lt o [] up = tt
rising_from_sorted lt o (x ∷ xs) up = (
  recursion_from_All (λ y. lt y x ≡ false) xs (λ k d high. sorted_far lt o (x ∷ xs) up 0 (suc k) d (omega arith) (omega arith)),
  rising_from_sorted lt o xs (sorted_rest lt x xs up),
)

sorted_more : {X : Type 0} (lt : X → X → Bool) (x y : X) (xs : List X) → lt y x ≡ false → IsSortedBy lt (y ∷ xs) → IsSortedBy lt (x ∷ y ∷ xs)
sorted_more {X} lt x y xs first rest = λ k d low high. at k d high
  where
    at : (k : ℕ) (d : X) → k + 1 < length (x ∷ y ∷ xs) → lt (get_or (x ∷ y ∷ xs) (k + 1) d) (get_or (x ∷ y ∷ xs) k d) ≡ false
    at zero d high = first
    at (suc k) d high = simp unary_clauses (simp unary_clauses at (rest k d (omega arith) (omega arith)))

pub sorted_from_rising : {X : Type 0} (lt : X → X → Bool) (xs : List X) → IsRising lt xs → IsSortedBy lt xs
sorted_from_rising lt [] up = λ k d low high. absurd (omega arith)
sorted_from_rising lt (x ∷ []) up = λ k d low high. absurd (omega arith)
sorted_from_rising lt (x ∷ y ∷ xs) up = sorted_more lt x y xs up.0.0 (sorted_from_rising lt (y ∷ xs) up.1)

-- ---- putting in order
all_put : {X : Type 0} (P : X → Type 0) (before : X → X → Bool) (x : X) (ys : List X) → P x → AllByRecursion P ys → AllByRecursion P (put_in_order before x ys)
all_put P before x [] px all = (px, tt)
all_put P before x (y ∷ ys) px all =
    elim (before x y) as (λ b. AllByRecursion P (cond b (x ∷ y ∷ ys) (y ∷ put_in_order before x ys))) [
      | true ↦ (px, all)
      | false ↦ (all.0, all_put P before x ys px all.1)
    ]

-- what is not less than y is not less than an x before y
none_before : {X : Type 0} (lt : X → X → Bool) → IsStrictWeakOrder lt → (x y : X) (ys : List X) → lt x y ≡ true → AllByRecursion (λ z. lt z y ≡ false) ys
    → AllByRecursion (λ z. lt z x ≡ false) ys
none_before lt o x y [] less all = tt
none_before lt o x y (z ∷ ys) less all = (o.chain z y x all.0 (o.one_way x y less), none_before lt o x y ys less all.1)

put_in_order-rising : {X : Type 0} (lt : X → X → Bool) → IsStrictWeakOrder lt → (x : X) (ys : List X) → IsRising lt ys → IsRising lt (put_in_order lt x ys)
put_in_order-rising lt o x [] up = (tt, tt)
put_in_order-rising lt o x (y ∷ ys) up =
    elim (lt x y) as (λ b. lt x y ≡ b → IsRising lt (cond b (x ∷ y ∷ ys) (y ∷ put_in_order lt x ys))) [
      | true ↦ λ less. ((o.one_way x y less, none_before lt o x y ys less up.0), up)
      | false ↦ λ not_less. (all_put (λ z. lt z y ≡ false) lt x ys not_less up.0, put_in_order-rising lt o x ys up.1)
    ] refl

pub in_order-rising : {X : Type 0} (lt : X → X → Bool) → IsStrictWeakOrder lt → (xs : List X) → IsRising lt (in_order lt xs)
in_order-rising lt o [] = tt
in_order-rising lt o (x ∷ xs) = put_in_order-rising lt o x (in_order lt xs) (in_order-rising lt o xs)

pub in_order-sorted_by : {X : Type 0} (lt : X → X → Bool) → IsStrictWeakOrder lt → (xs : List X) → IsSortedBy lt (in_order lt xs)
in_order-sorted_by lt o xs = sorted_from_rising lt (in_order lt xs) (in_order-rising lt o xs)

pub in_order-sorted : {X : Type 0} (cmp : X → X → Ordering) → IsTotalOrder cmp → (xs : List X) → IsSorted cmp (in_order (λ x y. is_lt (cmp x y)) xs)
in_order-sorted cmp o xs = in_order-sorted_by (λ x y. is_lt (cmp x y)) (ranks_by o (λ x. x)) xs

-- a list that is in order by what f gives of its elements
pub sorted_map : {X Y : Type 0} (f : X → Y) (cmp : Y → Y → Ordering) (xs : List X) → IsSorted (λ x y. cmp (f x) (f y)) xs → IsSorted cmp (map f xs)
sorted_map f cmp [] up = λ k d low high. absurd (omega arith)
sorted_map f cmp (x ∷ xs) up = λ k d low high.
    let size = length-map (x ∷ xs) f in
    let next_inside : k + 1 < length (x ∷ xs) = omega arith in
    let inside : k < length (x ∷ xs) = omega arith in
    rw (get_or-map f (x ∷ xs) (k + 1) x d next_inside, get_or-map f (x ∷ xs) k x d inside) (up k x low next_inside)

-- ---- the only sorted list of some elements
sum_of_none : {X : Type 0} (f : X → ℕ) (xs : List X) → AllByRecursion (λ x. f x ≡ 0) xs → sum_by f xs ≡ 0
sum_of_none f [] all = refl
sum_of_none f (x ∷ xs) all = let rest = sum_of_none f xs all.1 in let first = all.0 in omega (arith, sum_by-cons f x xs)

-- 1 for what is less than y, else 0
ones_less : {X : Type 0} → (X → X → Bool) → X → X → ℕ
ones_less lt y z = cond (lt z y) 1 0

none_less : {X : Type 0} (lt : X → X → Bool) (y : X) (ys : List X) → AllByRecursion (λ z. lt z y ≡ false) ys → AllByRecursion (λ z. ones_less lt y z ≡ 0) ys
unfolding ones_less
none_less lt y [] all = tt
none_less lt y (z ∷ ys) all = (ap (λ b. cond b 1 0) all.0, none_less lt y ys all.1)

irreflexive : {X : Type 0} (lt : X → X → Bool) → IsStrictWeakOrder lt → (x : X) → lt x x ≡ false
irreflexive lt o x = elim (lt x x) as (λ b. lt x x ≡ b → b ≡ false) [ true ↦ λ e. sym e ∙ o.one_way x x e | false ↦ λ e. refl ] refl

-- the first of a list is not less than the first of a rising list with the same totals
first_not_less : {X : Type 0} (lt : X → X → Bool) → IsStrictWeakOrder lt → (x y : X) (xs ys : List X) → IsRising lt (y ∷ ys)
    → ((f : X → ℕ) → sum_by f (x ∷ xs) ≡ sum_by f (y ∷ ys)) → lt x y ≡ false
unfolding ones_less
first_not_less lt o x y xs ys up sums =
    elim (lt x y) as (λ b. lt x y ≡ b → b ≡ false) [
      | true ↦ λ less.
          let itself : lt y y ≡ false = irreflexive lt o y in
          let none : sum_by (ones_less lt y) (y ∷ ys) ≡ 0 = sum_of_none (ones_less lt y) (y ∷ ys) (none_less lt y (y ∷ ys) (itself, up.0)) in
          let one : ones_less lt y x ≡ 1 = ap (λ b. cond b 1 0) less in
          absurd (omega (arith, sums (ones_less lt y), sum_by-cons (ones_less lt y) x xs, none, one))
      | false ↦ λ e. refl
    ] refl

-- two rising lists with the same totals are equal, where those of their elements that tie are equal
pub only_rising : {X : Type 0} (lt : X → X → Bool) → IsStrictWeakOrder lt → (P : X → Type 0)
    → ((x y : X) → P x → P y → lt x y ≡ false → lt y x ≡ false → x ≡ y) → (xs ys : List X) → AllByRecursion P xs → AllByRecursion P ys → IsRising lt xs
    → IsRising lt ys → ((f : X → ℕ) → sum_by f xs ≡ sum_by f ys) → xs ≡ ys
only_rising lt o P ties [] [] ps qs up vp sums = refl
only_rising lt o P ties [] (y ∷ ys) ps qs up vp sums = absurd (omega (arith, sums (λ z. 1), sum_by-cons (λ z. 1) y ys))
only_rising lt o P ties (x ∷ xs) [] ps qs up vp sums = absurd (omega (arith, sums (λ z. 1), sum_by-cons (λ z. 1) x xs))
only_rising {X} lt o P ties (x ∷ xs) (y ∷ ys) ps qs up vp sums =
    let first : x ≡ y = ties x y ps.0 qs.0 (first_not_less lt o x y xs ys vp sums) (first_not_less lt o y x ys xs up (λ f. sym (sums f))) in
    let rest : xs ≡ ys = only_rising lt o P ties xs ys ps.1 qs.1 up.1 vp.1
    (λ f. let same : f x ≡ f y = ap f first in omega (arith, same, sums f, sum_by-cons f x xs, sum_by-cons f y ys)) in
    λ i. first i ∷ rest i

equal_from_ties : (a b : Ordering) → a ≡ ordering_reverse b → is_lt a ≡ false → is_lt b ≡ false → a ≡ Equal
equal_from_ties Less b turned one two = cc
equal_from_ties Equal b turned one two = refl
equal_from_ties Greater Less turned one two = cc
equal_from_ties Greater Equal turned one two = cc
equal_from_ties Greater Greater turned one two = cc

-- two sorted lists with the same elements are equal, where those of the elements that compare equal are equal
pub only_sorted : {X : Type 0} (cmp : X → X → Ordering) → IsTotalOrder cmp → (xs ys : List X)
    → ((x y : X) → Contains xs x → Contains xs y → cmp x y ≡ Equal → x ≡ y) → IsSorted cmp xs → IsSorted cmp ys → IsPermutation xs ys → xs ≡ ys
only_sorted {X} cmp o xs ys ties up vp moved =
    let lt : X → X → Bool = λ x y. is_lt (cmp x y) in
    let weak : IsStrictWeakOrder lt = ranks_by o (λ x. x) in
    let own : All (Contains xs) xs = All-contains_itself xs in
    only_rising lt weak (Contains xs) (λ x y px py e f. ties x y px py (equal_from_ties (cmp x y) (cmp y x) (o.antisymm x y) e f)) xs ys
    (recursion_from_All (Contains xs) xs own) (recursion_from_All (Contains xs) ys (All-permutation (Contains xs) xs ys moved own))
    (rising_from_sorted lt weak xs up) (rising_from_sorted lt weak ys vp) (λ f. sym (sum_by-IsPermutation f xs ys moved))

-- the same where all elements that compare equal are equal
pub only_sorted_of_equals : {X : Type 0} (cmp : X → X → Ordering) → IsTotalOrder cmp → ((x y : X) → cmp x y ≡ Equal → x ≡ y) → (xs ys : List X)
    → IsSorted cmp xs → IsSorted cmp ys → IsPermutation xs ys → xs ≡ ys
only_sorted_of_equals cmp o equals xs ys up vp moved = only_sorted cmp o xs ys (λ x y px py. equals x y) up vp moved

-- so a sorted list of some elements is the one that putting them in order gives
pub in_order-only : {X : Type 0} (cmp : X → X → Ordering) → IsTotalOrder cmp → (xs ys : List X)
    → ((x y : X) → Contains xs x → Contains xs y → cmp x y ≡ Equal → x ≡ y) → IsSorted cmp ys → IsPermutation xs ys → ys ≡ in_order (λ x y. is_lt (cmp x y)) xs
in_order-only {X} cmp o xs ys ties up moved =
    let zs : List X = in_order (λ x y. is_lt (cmp x y)) xs in
    let here : (x : X) → Contains ys x → Contains xs x = λ x. Contains-permutation ys xs x (IsPermutation-sym xs ys moved) in
    only_sorted cmp o ys zs (λ x y px py. ties x y (here x px) (here y py)) up (in_order-sorted cmp o xs)
    (IsPermutation-trans ys xs zs (IsPermutation-sym xs ys moved) (in_order-permutation (λ x y. is_lt (cmp x y)) xs))

-- two orders, the one and then the other, tie where both tie
pub both_equal : (a b : Ordering) → ordering_then a b ≡ Equal → (a ≡ Equal) × (b ≡ Equal)
both_equal Less b e = cc
both_equal Equal b e = (refl, e)
both_equal Greater b e = cc
