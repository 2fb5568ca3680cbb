-- Tests of some or of all of a run of numbers, and what such a run contains.
use Rattle.std.proofs.Common.{◌≡◌, ◌+◌, ◌<◌, ◌≤◌, ℕ, zero, suc, Bool, true, false, ◌∷◌, ◌++◌, map, inl, inr, refl, sym, ap, subst, ◌∙◌, arith}
use Rattle.std.specs.Prelude.{nat_lt, ◌&&◌, ◌||◌, not, Contains}
use Rattle.std.specs.List.{list_all, list_any, range_with_len}
use Rattle.std.proofs.lemmas.Bool.{cases_eq, or_cases, or_left, or_right, or_from}
use Rattle.flu_lemmas.proofs.Tests.{and_left, and_right, both, lt_true}
use Rattle.flu_lemmas.proofs.Booleans.{or_assoc, or_false, or_false_left, or_false_right, not_or}
use Rattle.flu_lemmas.proofs.Containing.{contains_here, contains_later, contains_cases, contains_none}

-- ---- some of a run
pub any_in_range : (p : ℕ → Bool) (lo n i : ℕ) → lo ≤ i → i < lo + n → p i ≡ true → list_any p (range_with_len lo n) ≡ true
any_in_range p lo zero i low high e = absurd (omega arith)
any_in_range p lo (suc n) i low high e =
    elim (cases_eq lo i) [
      | inl same ↦ or_left (p lo) _ (ap p same ∙ e)
      | inr other ↦ or_right (p lo) _ (any_in_range p (lo + 1) n i (omega arith) (omega arith) e)
    ]

-- a number of a range that passes a test
pub record InRange (p : ℕ → Bool) (lo n : ℕ) : Type 0 where
  pub number : ℕ
  pub low : lo ≤ number
  pub high : number < lo + n
  pub passes : p number ≡ true

pub found_in_range : (p : ℕ → Bool) (lo n : ℕ) → list_any p (range_with_len lo n) ≡ true → InRange p lo n
found_in_range p lo zero e = cc
found_in_range p lo (suc n) e =
    elim (or_cases (p lo) (list_any p (range_with_len (lo + 1) n)) e) [
      | inl here ↦ record { number = lo; low = omega arith; high = omega arith; passes = here }
      | inr there ↦
          let more = found_in_range p (lo + 1) n there in
          let a = more.low in
          let b = more.high in
          record { number = more.number; low = omega arith; high = omega arith; passes = more.passes }
    ]

pub any_none_more : (p : ℕ → Bool) (lo n : ℕ) → list_any p (range_with_len lo n) ≡ false → p (lo + n) ≡ false → list_any p (range_with_len lo (suc n)) ≡ false
any_none_more p lo zero none here = let at : lo + 0 ≡ lo = omega arith in or_from (p lo) false (ap p (sym at) ∙ here) refl
any_none_more p lo (suc n) none here =
    let at : lo + 1 + n ≡ lo + suc n = omega arith in
    or_from (p lo) _ (or_false_left (p lo) _ none) (any_none_more p (lo + 1) n (or_false_right (p lo) _ none) (ap p at ∙ here))

-- one number more
pub any_range_more : (p : ℕ → Bool) (lo n : ℕ) → list_any p (range_with_len lo (n + 1)) ≡ (list_any p (range_with_len lo n) || p (lo + n))
any_range_more p lo zero = let at : lo + 0 ≡ lo = omega arith in or_false (p lo) ∙ ap p (sym at)
any_range_more p lo (suc n) =
    let at : lo + 1 + n ≡ lo + suc n = omega arith in
    let more : suc n + 1 ≡ suc (n + 1) = omega arith in
    ap (λ k. list_any p (range_with_len lo k)) more
    ∙ ap (λ b. p lo || b) (any_range_more p (lo + 1) n ∙ ap (λ k. list_any p (range_with_len (lo + 1) n) || p k) at)
    ∙ sym (or_assoc (p lo) (list_any p (range_with_len (lo + 1) n)) (p (lo + suc n)))

-- ---- all of a run
pub all_in_range : (p : ℕ → Bool) (lo n i : ℕ) → list_all p (range_with_len lo n) ≡ true → lo ≤ i → i < lo + n → p i ≡ true
all_in_range p lo zero i all low high = absurd (omega arith)
all_in_range p lo (suc n) i all low high =
    elim (cases_eq i lo) [
      | inl same ↦ ap p same ∙ and_left (p lo) _ all
      | inr other ↦ all_in_range p (lo + 1) n i (and_right (p lo) _ all) (omega arith) (omega arith)
    ]

pub all_of_range : (p : ℕ → Bool) (lo n : ℕ) → ((i : ℕ) → i < lo + n → p i ≡ true) → list_all p (range_with_len lo n) ≡ true
all_of_range p lo zero h = refl
all_of_range p lo (suc n) h = both (p lo) _ (h lo (omega arith)) (all_of_range p (lo + 1) n (λ i lt. h i (omega arith)))

-- all of a run pass the test where none passes its opposite
pub not_any_in_range : (p q : ℕ → Bool) (lo n : ℕ) → ((i : ℕ) → i < lo + n → not (p i) ≡ q i)
    → not (list_any p (range_with_len lo n)) ≡ list_all q (range_with_len lo n)
not_any_in_range p q lo zero h = refl
not_any_in_range p q lo (suc n) h =
    not_or (p lo) (list_any p (range_with_len (lo + 1) n))
    ∙ ap (λ b. b && not (list_any p (range_with_len (lo + 1) n))) (h lo (omega arith))
    ∙ ap (λ b. q lo && b) (not_any_in_range p q (lo + 1) n (λ i lt. h i (omega arith)))

-- ---- what a run contains
pub range_within : (lo n i : ℕ) → Contains (range_with_len lo n) i → (lo ≤ i) × (i < lo + n)
range_within lo zero i there = absurd (contains_none i there)
range_within lo (suc n) i there =
    elim (contains_cases lo i (range_with_len (lo + 1) n) there) [
      | inl same ↦ (omega (arith, same), omega (arith, same))
      | inr later ↦ (let more = range_within (lo + 1) n i later in let a = more.0 in let b = more.1 in (omega (arith, a), omega (arith, b)))
    ]

pub range_below : (n i : ℕ) → Contains (range_with_len 0 n) i → i < n
range_below n i there = let both = range_within 0 n i there in omega (arith, both.1)

pub range_has : (lo n i : ℕ) → lo ≤ i → i < lo + n → Contains (range_with_len lo n) i
range_has lo zero i low high = absurd (omega arith)
range_has lo (suc n) i low high =
    elim (cases_eq lo i) [
      | inl same ↦ subst (λ (k : ℕ). Contains (range_with_len lo (suc n)) k) same (contains_here lo (range_with_len (lo + 1) n))
      | inr other ↦ contains_later lo i (range_with_len (lo + 1) n) (range_has (lo + 1) n i (omega arith) (omega arith))
    ]

pub range_append : (lo m n : ℕ) → range_with_len lo (m + n) ≡ range_with_len lo m ++ range_with_len (lo + m) n
range_append lo zero n =
    let none : lo + 0 ≡ lo = omega arith in
    let same : 0 + n ≡ n = omega arith in
    ap (range_with_len lo) same ∙ sym (ap (λ k. range_with_len k n) none)
range_append lo (suc m) n =
    let more : suc m + n ≡ suc (m + n) = omega arith in
    let next : lo + 1 + m ≡ lo + suc m = omega arith in
    ap (range_with_len lo) more ∙ ap (λ l. lo ∷ l) (range_append (lo + 1) m n ∙ ap (λ k. range_with_len (lo + 1) m ++ range_with_len k n) next)

-- two functions that agree on a run give the same list
pub map_range_alike : {X : Type 0} (f g : ℕ → X) (lo n : ℕ) → ((i : ℕ) → i < lo + n → f i ≡ g i) → map f (range_with_len lo n) ≡ map g (range_with_len lo n)
map_range_alike f g lo zero alike = refl
map_range_alike f g lo (suc n) alike = λ k. alike lo (omega arith) k ∷ map_range_alike f g (lo + 1) n (λ i lt. alike i (omega arith)) k

pub all_below : (lo n b : ℕ) → lo + n ≤ b → list_all (λ k. nat_lt k b) (range_with_len lo n) ≡ true
all_below lo zero b le = refl
all_below lo (suc n) b le = both (nat_lt lo b) _ (lt_true lo b (omega arith)) (all_below (lo + 1) n b (omega arith))
