-- Lists in which each number is less than the next.
use Rattle.std.proofs.Common.{◌≡◌, ◌<◌, ◌≤◌, ◌+◌, ℕ, zero, suc, Bool, true, false, cond, List, [], ◌∷◌, inl, inr, refl, sym, ap, subst, ◌∙◌, arith}
use Rattle.std.specs.Prelude.{Contains, IsTrue, nat_lt, ◌&&◌, IsSorted, IsPermutation}
use Rattle.std.specs.List.{filter, range_with_len}
use Rattle.std.proofs.lemmas.Bool.{cases_lt, cases_eq, and_parts, and_from, lt-ltb, le-ltb, ltb-true, ltb-false}
use Rattle.std.specs.FinMap.{nat_cmp-IsAntisymmetric}
use Rattle.std.specs.Ordering.{nat_cmp, is_lt}
use Rattle.std.proofs.lemmas.Cmp.{nat_cmp_total, by_ranked, ranked}
use Rattle.flu_lemmas.specs.Sorting.{in_order, put_in_order}
use Rattle.flu_lemmas.proofs.Sorting.{in_order-only}
use Rattle.flu_lemmas.proofs.Ranges.{range_within}
use Rattle.flu_planner.specs.Graphs.{is_rising, rising}
use Rattle.flu_lemmas.specs.Counting.{times}
use Rattle.flu_lemmas.proofs.Containing.{contains_here, contains_later, contains_cases, contains_none}
use Rattle.flu_lemmas.proofs.Counting.{times_of_same, times_of_other, times-cons, times_in_order, contained_if_times}

pub rising_rest : (x : ℕ) (xs : List ℕ) → IsTrue (is_rising (x ∷ xs)) → IsTrue (is_rising xs)
rising_rest x [] up = refl
rising_rest x (y ∷ ys) up = (and_parts (nat_lt x y) _ up).1

pub rising_above : (x : ℕ) (xs : List ℕ) → IsTrue (is_rising (x ∷ xs)) → (k : ℕ) → Contains xs k → x < k
rising_above x [] up k there = absurd (contains_none k there)
rising_above x (y ∷ ys) up k there =
    let parts = and_parts (nat_lt x y) (is_rising (y ∷ ys)) up in
    let first : x < y = ltb-true x y parts.0 in
    elim (contains_cases y k ys there) [
      | inl e ↦ omega arith
      | inr later ↦ (let more : y < k = rising_above y ys parts.1 k later in omega arith)
    ]

pub rising_cons : (x : ℕ) (xs : List ℕ) → ((k : ℕ) → Contains xs k → x < k) → IsTrue (is_rising xs) → IsTrue (is_rising (x ∷ xs))
rising_cons x [] above up = refl
rising_cons x (y ∷ ys) above up = and_from (nat_lt x y) (is_rising (y ∷ ys)) (lt-ltb x y (above y (contains_here y ys))) up

-- each number stands once in such a list
pub rising_once : (xs : List ℕ) → IsTrue (is_rising xs) → (k : ℕ) → times k xs ≤ 1
rising_once [] up k = omega arith
rising_once (x ∷ xs) up k =
    let rest : times k xs ≤ 1 = rising_once xs (rising_rest x xs up) k in
    elim (cases_eq x k) [
      | inl e ↦ elim (cases_lt 0 (times k xs)) [
        | inl some ↦ (let above : x < k = rising_above x xs up k (contained_if_times k xs (omega arith)) in absurd (omega arith))
        | inr none ↦ (let one = times_of_same k x xs e in omega arith)
      ]
      | inr ne ↦ (let same = times_of_other k x xs ne in omega arith)
    ]

-- ---- rising lists with the same elements are equal
-- the first of a rising list is not above what the list contains
first_is_least : (x y : ℕ) (xs : List ℕ) → IsTrue (is_rising (x ∷ xs)) → Contains (x ∷ xs) y → x ≤ y
first_is_least x y xs up there =
    elim (contains_cases x y xs there) [
      | inl same ↦ omega (arith, same)
      | inr later ↦ (let less = rising_above x xs up y later in omega (arith, less))
    ]

pub rising_same : (xs ys : List ℕ) → IsTrue (is_rising xs) → IsTrue (is_rising ys) → ((i : ℕ) → Contains xs i → Contains ys i)
    → ((i : ℕ) → Contains ys i → Contains xs i) → xs ≡ ys
rising_same [] [] e f there back = refl
rising_same [] (y ∷ ys) e f there back = absurd (contains_none y (back y (contains_here y ys)))
rising_same (x ∷ xs) [] e f there back = absurd (contains_none x (there x (contains_here x xs)))
rising_same (x ∷ xs) (y ∷ ys) e f there back =
    let above : y ≤ x = first_is_least y x ys f (there x (contains_here x xs)) in
    let below : x ≤ y = first_is_least x y xs e (back y (contains_here y ys)) in
    let first : x ≡ y = omega (arith, above, below) in
    let rest : xs ≡ ys =
    rising_same xs ys (rising_rest x xs e) (rising_rest y ys f)
    (λ i c. elim (contains_cases y i ys (there i (contains_later x i xs c))) [
      | inl same ↦ (let less = rising_above x xs e i c in absurd (omega (arith, less, same, first)))
      | inr more ↦ more
    ])
    (λ i c. elim (contains_cases x i xs (back i (contains_later y i ys c))) [
      | inl same ↦ (let less = rising_above y ys f i c in absurd (omega (arith, less, same, first)))
      | inr more ↦ more
    ]) in
    λ i. first i ∷ rest i

-- ---- what a filter keeps stands in the list
pub kept : (p : ℕ → Bool) (xs : List ℕ) (k : ℕ) → Contains (filter p xs) k → Contains xs k × (p k ≡ true)
kept p [] k there = absurd (contains_none k there)
kept p (x ∷ xs) k there =
    elim (p x) as (λ b. p x ≡ b → Contains (cond b (x ∷ filter p xs) (filter p xs)) k → Contains (x ∷ xs) k × (p k ≡ true)) [
      | true ↦ λ passes here.
          elim (contains_cases x k (filter p xs) here) [
            | inl e ↦ (subst (Contains (x ∷ xs)) e (contains_here x xs), ap p (sym e) ∙ passes)
            | inr later ↦ (let rest = kept p xs k later in (contains_later x k xs rest.0, rest.1))
          ]
      | false ↦ λ fails here. (let rest = kept p xs k here in (contains_later x k xs rest.0, rest.1))
    ] refl there

pub rising_filter : (p : ℕ → Bool) (xs : List ℕ) → IsTrue (is_rising xs) → IsTrue (is_rising (filter p xs))
rising_filter p [] up = refl
rising_filter p (x ∷ xs) up =
    let rest : IsTrue (is_rising (filter p xs)) = rising_filter p xs (rising_rest x xs up) in
    elim (p x) as (λ b. IsTrue (is_rising (cond b (x ∷ filter p xs) (filter p xs)))) [
      | true ↦ rising_cons x (filter p xs) (λ k there. rising_above x xs up k (kept p xs k there).0) rest
      | false ↦ rest
    ]

-- ---- a list of numbers that each stand once, put in order
put_above : (x y : ℕ) (ys : List ℕ) → y < x → IsTrue (is_rising (y ∷ ys)) → times x ys ≡ 0 → IsTrue (is_rising (y ∷ put_in_order nat_lt x ys))
put_above x y [] lt up none = and_from (nat_lt y x) true (lt-ltb y x lt) refl
put_above x y (z ∷ zs) lt up none =
    let parts = and_parts (nat_lt y z) (is_rising (z ∷ zs)) up in
    elim (nat_lt x z) as (λ b. nat_lt x z ≡ b → IsTrue (is_rising (y ∷ cond b (x ∷ z ∷ zs) (z ∷ put_in_order nat_lt x zs)))) [
      | true ↦ λ less. and_from (nat_lt y x) (nat_lt x z && is_rising (z ∷ zs)) (lt-ltb y x lt) (and_from (nat_lt x z) (is_rising (z ∷ zs)) less parts.1)
      | false ↦ λ not_less.
          (let le : z ≤ x = ltb-false x z not_less in
          elim (cases_eq z x) [
            | inl e ↦ (let one = times_of_same x z zs e in absurd (omega arith))
            | inr ne ↦
                (let same = times_of_other x z zs ne in
                and_from (nat_lt y z) (is_rising (z ∷ put_in_order nat_lt x zs)) parts.0 (put_above x z zs (omega arith) parts.1 (omega arith)))
          ])
    ] refl

put_rising : (x : ℕ) (ys : List ℕ) → IsTrue (is_rising ys) → times x ys ≡ 0 → IsTrue (is_rising (put_in_order nat_lt x ys))
put_rising x [] up none = refl
put_rising x (y ∷ ys) up none =
    elim (nat_lt x y) as (λ b. nat_lt x y ≡ b → IsTrue (is_rising (cond b (x ∷ y ∷ ys) (y ∷ put_in_order nat_lt x ys)))) [
      | true ↦ λ less. and_from (nat_lt x y) (is_rising (y ∷ ys)) less up
      | false ↦ λ not_less.
          (let le : y ≤ x = ltb-false x y not_less in
          elim (cases_eq y x) [
            | inl e ↦ (let one = times_of_same x y ys e in absurd (omega arith))
            | inr ne ↦ (let same = times_of_other x y ys ne in put_above x y ys (omega arith) up (omega arith))
          ])
    ] refl

pub rising_in_order : (xs : List ℕ) → ((k : ℕ) → times k xs ≤ 1) → IsTrue (is_rising (in_order nat_lt xs))
rising_in_order [] once = refl
rising_in_order (x ∷ xs) once =
    let rest : (k : ℕ) → times k xs ≤ 1 = λ k. (let here = times-cons k x xs in let limit = once k in omega arith) in
    let one = times_of_same x x xs refl in
    let limit = once x in
    let same = times_in_order x nat_lt xs in
    put_rising x (in_order nat_lt xs) (rising_in_order xs rest) (omega arith)

-- ---- the numbers from one on
pub rising_range : (a n : ℕ) → IsTrue (is_rising (range_with_len a n))
rising_range a zero = refl
rising_range a (suc n) =
    rising_cons a (range_with_len (a + 1) n)
    (λ k there. let both = range_within (a + 1) n k there in omega (arith, both.0))
    (rising_range (a + 1) n)

-- ---- sorted numbers are those by rising number
less_is : (x y : ℕ) → is_lt (nat_cmp x y) ≡ nat_lt x y
less_is x y = by_ranked _ _ _ (nat_cmp x y) (ranked x y (nat_cmp x y) refl)
    (λ o less. ap is_lt o ∙ sym (lt-ltb x y less))
    (λ o same. ap is_lt o ∙ sym (le-ltb x y (omega arith)))
    (λ o more. ap is_lt o ∙ sym (le-ltb x y (omega arith)))

pub rising_is : (xs ys : List ℕ) → IsSorted nat_cmp ys → IsPermutation xs ys → ys ≡ rising xs
rising_is xs ys up moved =
    in_order-only nat_cmp nat_cmp_total xs ys (λ x y here there e. nat_cmp-IsAntisymmetric x y e) up moved ∙ (λ i. in_order (λ x y. less_is x y i) xs)
