-- Totals over lists, which do not depend on the order.
use Rattle.std.proofs.Common.{◌≡◌, ◌+◌, ℕ, Bool, true, false, cond, List, [], ◌∷◌, ◌++◌, refl, sym, ap, ◌∙◌, arith}
use Rattle.std.specs.List.{sum_by, flat_map, AllByRecursion}
use Rattle.std.specs.List.Sorted.{IsPermutation}
use Rattle.flu_lemmas.specs.Totals.{total}
use Rattle.std.proofs.lemmas.List.Sums.{sum_by-append}
use Rattle.std.proofs.lemmas.List.Sorted.{sum_by-IsPermutation}

pub sum_by-total : {X : Type 0} (f : X → ℕ) (xs : List X) → sum_by f xs ≡ total f xs
sum_by-total f [] = refl
sum_by-total f (x ∷ xs) =
    let step : sum_by f (x ∷ xs) ≡ sum_by f (x ∷ []) + sum_by f xs = sum_by-append f (x ∷ []) xs in
    let rest : sum_by f xs ≡ total f xs = sum_by-total f xs in
    let one : sum_by f (x ∷ []) ≡ f x = omega arith in
    omega (arith, step, rest, one)

pub total-IsPermutation : {X : Type 0} (f : X → ℕ) (xs ys : List X) → IsPermutation xs ys → total f ys ≡ total f xs
total-IsPermutation f xs ys p = sym (sum_by-total f ys) ∙ sum_by-IsPermutation f xs ys p ∙ sum_by-total f xs

pub total-append : {X : Type 0} (f : X → ℕ) (xs ys : List X) → total f (xs ++ ys) ≡ total f xs + total f ys
total-append f [] ys = omega arith
total-append f (x ∷ xs) ys = let rest : total f (xs ++ ys) ≡ total f xs + total f ys = total-append f xs ys in omega (arith, rest)

pub total-plus : {X : Type 0} (f g : X → ℕ) (xs : List X) → total (λ x. f x + g x) xs ≡ total f xs + total g xs
total-plus f g [] = omega arith
total-plus f g (x ∷ xs) = let rest = total-plus f g xs in omega arith

pub total-flat_map : {X Y : Type 0} (f : Y → ℕ) (g : X → List Y) (xs : List X) → total f (flat_map g xs) ≡ total (λ x. total f (g x)) xs
total-flat_map f g [] = refl
total-flat_map f g (x ∷ xs) = total-append f (g x) (flat_map g xs) ∙ ap (λ n. total f (g x) + n) (total-flat_map f g xs)

-- a fact holds of each item of a list where it is counted false for none
pub all_from_total : {X : Type 0} (p : X → Bool) (xs : List X) → total (λ x. cond (p x) 0 1) xs ≡ 0 → AllByRecursion (λ x. p x ≡ true) xs
all_from_total p [] e = tt
all_from_total p (x ∷ xs) e = (by_test (p x) (omega arith), all_from_total p xs (omega arith))
  where
    by_test : (b : Bool) → cond {A = ℕ} b 0 1 ≡ 0 → b ≡ true
    by_test true e = refl
    by_test false e = absurd (omega arith)

pub total_from_all : {X : Type 0} (p : X → Bool) (xs : List X) → AllByRecursion (λ x. p x ≡ true) xs → total (λ x. cond (p x) 0 1) xs ≡ 0
total_from_all p [] all = refl
total_from_all p (x ∷ xs) all =
    let rest : total (λ x. cond (p x) 0 1) xs ≡ 0 = total_from_all p xs all.1 in
    ap (λ b. cond b 0 1 + total (λ x. cond (p x) 0 1) xs) all.0 ∙ omega (arith, rest)

-- a test that holds of each item of a list holds of each item of another order of it
pub all-IsPermutation : {X : Type 0} (p : X → Bool) (xs ys : List X) → IsPermutation xs ys → AllByRecursion (λ x. p x ≡ true) xs
    → AllByRecursion (λ x. p x ≡ true) ys
all-IsPermutation p xs ys perm all = all_from_total p ys (total-IsPermutation (λ x. cond (p x) 0 1) xs ys perm ∙ total_from_all p xs all)
