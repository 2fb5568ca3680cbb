-- Totals over lists and over runs of numbers in which one term becomes another.
use Rattle.std.proofs.Common.{◌≡◌, ◌≢◌, ◌<◌, ◌≤◌, ◌+◌, ℕ, zero, suc, Some, cond, List, [], ◌∷◌, map, set, inl, inr, refl, ap, arith}
use Rattle.std.specs.Prelude.{slice_get, ◌==◌}
use Rattle.std.specs.List.{range_with_len}
use Rattle.std.proofs.lemmas.Bool.{cases_eq, ne_eqb}
use Rattle.std.proofs.lemmas.Option.{same_Some}
use Rattle.flu_lemmas.proofs.Numbers.{same_number}
use Rattle.flu_lemmas.specs.Totals.{total}

-- ---- over a list
pub total_set : {X : Type 0} (f : X → ℕ) (xs : List X) (i : ℕ) (x y : X) → slice_get xs i ≡ Some x → total f (set xs i y) + f x ≡ total f xs + f y
total_set f [] i x y e = cc
total_set f (z ∷ xs) zero x y e = let same : f z ≡ f x = ap f (same_Some z x e) in omega arith
total_set f (z ∷ xs) (suc i) x y e = let rest = total_set f xs i x y e in omega arith

pub total_map : {X Y : Type 0} (f : Y → ℕ) (g : X → Y) (xs : List X) → total f (map g xs) ≡ total (λ x. f (g x)) xs
total_map f g [] = refl
total_map f g (x ∷ xs) = ap (λ n. f (g x) + n) (total_map f g xs)

-- ---- over a run of numbers
pub total_le : (f g : ℕ → ℕ) (lo n : ℕ) → ((i : ℕ) → i < lo + n → f i ≤ g i) → total f (range_with_len lo n) ≤ total g (range_with_len lo n)
total_le f g lo zero le = omega arith
total_le f g lo (suc n) le =
    let here : f lo ≤ g lo = le lo (omega arith) in
    let rest = total_le f g (lo + 1) n (λ i lt. le i (omega arith)) in
    omega arith

pub total_same : (f g : ℕ → ℕ) (lo n : ℕ) → ((i : ℕ) → lo ≤ i → i < lo + n → f i ≡ g i) → total f (range_with_len lo n) ≡ total g (range_with_len lo n)
total_same f g lo zero same = refl
total_same f g lo (suc n) same =
    let here : f lo ≡ g lo = same lo (omega arith) (omega arith) in
    let rest = total_same f g (lo + 1) n (λ i low high. same i (omega arith) (omega arith)) in
    omega arith

-- one term becomes another
pub total_change : (f g : ℕ → ℕ) (lo n i : ℕ) → lo ≤ i → i < lo + n → ((j : ℕ) → j < lo + n → j ≢ i → f j ≡ g j)
    → total f (range_with_len lo n) + g i ≡ total g (range_with_len lo n) + f i
total_change f g lo zero i low high same = absurd (omega arith)
total_change f g lo (suc n) i low high same =
    elim (cases_eq lo i) as (λ _. total f (range_with_len lo (suc n)) + g i ≡ total g (range_with_len lo (suc n)) + f i) [
      | inl is ↦
          let rest = total_same f g (lo + 1) n (λ j low_j high_j. same j (omega arith) (λ e. omega arith)) in
          let here : f lo ≡ f i = ap f is in
          let there : g lo ≡ g i = ap g is in
          omega arith
      | inr apart ↦
          let rest = total_change f g (lo + 1) n i (omega arith) (omega arith) (λ j lt. same j (omega arith)) in
          let here : f lo ≡ g lo = same lo (omega arith) apart in
          omega arith
    ]

pub total_zero : (lo n : ℕ) → total (λ i. 0) (range_with_len lo n) ≡ 0
total_zero lo zero = refl
total_zero lo (suc n) = let rest = total_zero (lo + 1) n in omega arith

-- a run has each of its numbers once
pub once_in_run : (n w : ℕ) → w < n → total (λ v. cond (v == w) 1 0) (range_with_len 0 n) ≡ 1
once_in_run n w lt =
    let change = total_change (λ v. cond (v == w) 1 0) (λ v. 0) 0 n w (omega arith) (omega arith) (λ v high apart. ap (λ b. cond b 1 0) (ne_eqb v w apart)) in
    let here : cond {A = ℕ} (w == w) 1 0 ≡ 1 = ap (λ b. cond b 1 0) (same_number w) in
    let none = total_zero 0 n in
    omega arith
