-- Numbers at equal steps, multiples, and rising lists with the same numbers.
use Rattle.std.proofs.Common.{◌≡◌, ◌↔◌, ℕ, zero, suc, ◌+◌, ◌-◌, ◌*◌, ◌/◌, ◌%◌, ◌<◌, ◌≤◌, List, [], ◌∷◌, length, Some, None, inl, inr, refl, sym, ap, subst, ◌∙◌, arith}
use Rattle.std.specs.Prelude.{slice_get, Contains}
use Rattle.std.specs.List.{AllByRecursion}
use Rattle.std.specs.List.Sorted.{IsStrictlyIncreasing, IsStrictlySortedBy}
use Rattle.std.specs.Ordering.{nat_cmp}
use Rattle.std.specs.declared.cmp.Ordering.TheVariants.{Less}
use Rattle.std.proofs.lemmas.Bool.{cases_lt}
use Rattle.std.proofs.lemmas.Bool.Decides.{nat_tests}
use Rattle.std.proofs.lemmas.List.Elements.{All-from_recursion, All-contains}
use Rattle.std.proofs.lemmas.Map.Keys.{sorted_from_strictly_increasing, IsStrictlyIncreasing-from_sorted}
use Rattle.std.proofs.lemmas.Nat.{div-add-mod', mod-mul-add}
use Rattle.flu_lemmas.proofs.Containing.{contains_here, contains_later, contains_cases, contains_none}
use Rattle.flu_moments.specs.Clocks.{steps}
use Rattle.flu_moments.proofs.MomentLemmas.{product_le}

-- ---- multiples
pub multiple_of : (k every : ℕ) → 0 < every → (k * every) % every ≡ 0
multiple_of k every some = ap (λ x. x % every) (let e : k * every ≡ k * every + 0 = omega arith in e) ∙ mod-mul-add k every 0 some

pub multiple_is : (time every : ℕ) → time % every ≡ 0 → time ≡ time / every * every
multiple_is time every multiple = let parts = div-add-mod' time every in omega (arith, multiple)

pub multiple_more : (time every k : ℕ) → 0 < every → time % every ≡ 0 → (time + k * every) % every ≡ 0
multiple_more time every k some multiple =
    let parts = multiple_is time every multiple in
    let sum : time + k * every ≡ (time / every + k) * every = omega arith in
    ap (λ x. x % every) sum ∙ multiple_of (time / every + k) every some

apart_by : (a b p q k every : ℕ) → a ≡ p * every → b ≡ q * every → q ≡ p + k → b ≡ a + k * every
apart_by a b p q k every is is' sum = let product : q * every ≡ (p + k) * every = ap (λ x. x * every) sum in omega arith

quotients : (p q every : ℕ) → p * every ≤ q * every → 0 < every → p ≤ q
quotients p q every less some =
    elim (cases_lt q p) [ inl more ↦ (let step = product_le (q + 1) p every (omega arith) in absurd (omega arith)) | inr le ↦ le ]

-- a later multiple is some steps further
pub steps_apart : (a b every : ℕ) → 0 < every → a % every ≡ 0 → b % every ≡ 0 → a ≤ b → (k : ℕ) × (b ≡ a + k * every)
steps_apart a b every some multiple multiple' le =
    let from = multiple_is a every multiple in
    let to = multiple_is b every multiple' in
    let up = quotients (a / every) (b / every) every (omega arith) some in
    (b / every - a / every, apart_by a b (a / every) (b / every) (b / every - a / every) every from to (omega arith))

-- ---- the numbers at equal steps
pub length-steps : (first every count : ℕ) → length (steps first every count) ≡ count
length-steps first every zero = refl
length-steps first every (suc count) = let rest = length-steps (first + every) every count in omega arith

pub step_is : (first every count time : ℕ) → Contains (steps first every count) time → (k : ℕ) × (k < count) × (time ≡ first + k * every)
step_is first every zero time there = absurd (contains_none time there)
step_is first every (suc count) time there =
    elim (contains_cases first time (steps (first + every) every count) there) [
      | inl here ↦ (0, omega arith, omega arith)
      | inr later ↦ (let rest = step_is (first + every) every count time later in
          let less = rest.1 in
          let is = rest.2 in
          (suc rest.0, omega arith, omega arith))
    ]

pub is_step : (first every count k : ℕ) → k < count → Contains (steps first every count) (first + k * every)
is_step first every zero k less = absurd (omega arith)
is_step first every (suc count) zero less =
    let here : first ≡ first + 0 * every = omega arith in
    subst (Contains (steps first every (suc count))) here (contains_here first (steps (first + every) every count))
is_step first every (suc count) (suc k) less =
    let there : first + every + k * every ≡ first + suc k * every = omega arith in
    subst (Contains (steps first every (suc count))) there
    (contains_later first (first + every + k * every) (steps (first + every) every count) (is_step (first + every) every count k (omega arith)))

pub step_at : (first every count k : ℕ) → k < count → slice_get (steps first every count) k ≡ Some (first + k * every)
step_at first every zero k less = absurd (omega arith)
step_at first every (suc count) zero less = ap Some (omega arith)
step_at first every (suc count) (suc k) less = step_at (first + every) every count k (omega arith) ∙ ap Some (omega arith)

pub no_step_at : (first every count k : ℕ) → count ≤ k → slice_get (steps first every count) k ≡ None
no_step_at first every zero k le = refl
no_step_at first every (suc count) zero le = absurd (omega arith)
no_step_at first every (suc count) (suc k) le = no_step_at (first + every) every count k (omega arith)

pub less_by_cmp : (x y : ℕ) → x < y → nat_cmp x y ≡ Less
less_by_cmp x y less = grind (arith, nat_tests)

cmp_by_less : (x y : ℕ) → nat_cmp x y ≡ Less → x < y
cmp_by_less x y e = grind (arith, nat_tests)

all_above : (x first every count : ℕ) → x < first → AllByRecursion (λ y. nat_cmp x y ≡ Less) (steps first every count)
all_above x first every zero less = tt
all_above x first every (suc count) less = (less_by_cmp x first less, all_above x (first + every) every count (omega arith))

steps-sorted : (first every count : ℕ) → 0 < every → IsStrictlySortedBy nat_cmp (steps first every count)
unfolding IsStrictlySortedBy
steps-sorted first every zero some = tt
steps-sorted first every (suc count) some = (all_above first (first + every) every count (omega arith), steps-sorted (first + every) every count some)

pub steps-rising : (first every count : ℕ) → 0 < every → IsStrictlyIncreasing (steps first every count)
steps-rising first every count some = IsStrictlyIncreasing-from_sorted (steps first every count) (steps-sorted first every count some)

-- ---- rising lists with the same numbers are equal
above_first : (x y : ℕ) (xs : List ℕ) → AllByRecursion (λ z. nat_cmp x z ≡ Less) xs → Contains xs y → x < y
above_first x y xs all there = cmp_by_less x y (All-contains (λ z. nat_cmp x z ≡ Less) xs y (All-from_recursion (λ z. nat_cmp x z ≡ Less) xs all) there)

only_sorted : (xs ys : List ℕ) → IsStrictlySortedBy nat_cmp xs → IsStrictlySortedBy nat_cmp ys → ((z : ℕ) → Contains xs z → Contains ys z)
    → ((z : ℕ) → Contains ys z → Contains xs z) → xs ≡ ys
unfolding IsStrictlySortedBy
only_sorted [] [] up up' to back = refl
only_sorted [] (y ∷ ys) up up' to back = absurd (contains_none y (back y (contains_here y ys)))
only_sorted (x ∷ xs) [] up up' to back = absurd (contains_none x (to x (contains_here x xs)))
only_sorted (x ∷ xs) (y ∷ ys) up up' to back =
    let first : x ≡ y = same in
    let rest : xs ≡ ys = only_sorted xs ys up.1 up'.1 keeps keeps_back in
    λ i. first i ∷ rest i
  where
    same : x ≡ y
    same =
        elim (contains_cases y x ys (to x (contains_here x xs))) [
          | inl e ↦ sym e
          | inr later ↦ elim (contains_cases x y xs (back y (contains_here y ys))) [
            | inl e ↦ e
            | inr later' ↦ (let one = above_first y x ys up'.0 later in let two = above_first x y xs up.0 later' in absurd (omega arith))
          ]
        ]

    keeps : (z : ℕ) → Contains xs z → Contains ys z
    keeps z there =
        elim (contains_cases y z ys (to z (contains_later x z xs there))) [
          | inl e ↦ (let above = above_first x z xs up.0 there in let first = same in absurd (omega arith))
          | inr later ↦ later
        ]

    keeps_back : (z : ℕ) → Contains ys z → Contains xs z
    keeps_back z there =
        elim (contains_cases x z xs (back z (contains_later y z ys there))) [
          | inl e ↦ (let above = above_first y z ys up'.0 there in let first = same in absurd (omega arith))
          | inr later ↦ later
        ]

pub only_rising : (xs ys : List ℕ) → IsStrictlyIncreasing xs → IsStrictlyIncreasing ys → ((z : ℕ) → Contains xs z ↔ Contains ys z) → xs ≡ ys
only_rising xs ys up up' same =
    only_sorted xs ys (sorted_from_strictly_increasing xs up) (sorted_from_strictly_increasing ys up') (λ z. (same z).0) (λ z. (same z).1)
