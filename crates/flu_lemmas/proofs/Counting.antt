-- How often a number stands in a list.
use Rattle.std.proofs.Common.{◌≡◌, ◌≤◌, ◌+◌, ℕ, Bool, cond, List, [], ◌∷◌, ◌++◌, take, drop, inl, inr, refl, ap, subst, ◌∙◌, arith}
use Rattle.std.specs.Prelude.{not, Contains, ◌==◌}
use Rattle.std.specs.List.{filter}
use Rattle.std.specs.List.Sorted.{IsPermutation}
use Rattle.std.proofs.lemmas.Bool.{cases_eq, ne_eqb, eq-eqb}
use Rattle.std.proofs.lemmas.List.Filters.{sum_by-filter_both}
use Rattle.std.proofs.lemmas.List.Sums.{sum_by-cons, sum_by-append, sum_by-take-drop}
use Rattle.std.proofs.lemmas.List.Sorted.{sum_by-IsPermutation}
use Rattle.flu_lemmas.specs.Counting.{times}
use Rattle.flu_lemmas.specs.Sorting.{in_order}
use Rattle.flu_lemmas.proofs.Containing.{contains_here, contains_later, contains_cases, contains_none}
use Rattle.flu_lemmas.proofs.Sorting.{in_order-permutation}

pub times-cons : (i x : ℕ) (xs : List ℕ) → times i (x ∷ xs) ≡ cond (x == i) 1 0 + times i xs
times-cons i x xs = sum_by-cons (λ j. cond (j == i) 1 0) x xs

pub times_of_same : (i x : ℕ) (xs : List ℕ) → x ≡ i → times i (x ∷ xs) ≡ 1 + times i xs
times_of_same i x xs e = times-cons i x xs ∙ ap (λ b. cond b 1 0 + times i xs) (eq-eqb x i e)

pub times_of_other : (i x : ℕ) (xs : List ℕ) → (x ≡ i → ⊥) → times i (x ∷ xs) ≡ times i xs
times_of_other i x xs ne = times-cons i x xs ∙ ap (λ b. cond b 1 0 + times i xs) (ne_eqb x i ne) ∙ omega arith

-- ---- what stands in a list is counted
pub times_if_contained : (i : ℕ) (xs : List ℕ) → Contains xs i → 1 ≤ times i xs
times_if_contained i [] there = absurd (contains_none i there)
times_if_contained i (x ∷ xs) there =
    elim (contains_cases x i xs there) [
      | inl e ↦ (let here = times_of_same i x xs e in omega (arith, here))
      | inr later ↦ (let rest = times_if_contained i xs later in let here = times-cons i x xs in omega (arith, rest, here))
    ]

pub contained_if_times : (i : ℕ) (xs : List ℕ) → 1 ≤ times i xs → Contains xs i
contained_if_times i [] some = absurd (omega arith)
contained_if_times i (x ∷ xs) some =
    elim (cases_eq x i) [
      | inl e ↦ subst (Contains (x ∷ xs)) e (contains_here x xs)
      | inr ne ↦ (let less = times_of_other i x xs ne in contains_later x i xs (contained_if_times i xs (omega (arith, less, some))))
    ]

-- ---- parts of a list, and other orders of it
pub times_append : (i : ℕ) (xs ys : List ℕ) → times i (xs ++ ys) ≡ times i xs + times i ys
times_append i xs ys = sum_by-append (λ j. cond (j == i) 1 0) xs ys

pub times_parted : (i n : ℕ) (xs : List ℕ) → times i (take n xs) + times i (drop n xs) ≡ times i xs
times_parted i n xs = sum_by-take-drop (λ j. cond (j == i) 1 0) xs n

pub times_filter : (i : ℕ) (p : ℕ → Bool) (xs : List ℕ) → times i (filter p xs) + times i (filter (λ j. not (p j)) xs) ≡ times i xs
times_filter i p xs = sum_by-filter_both p (λ j. not (p j)) (λ j. refl) (λ j. cond (j == i) 1 0) xs

pub times_moved : (i : ℕ) (xs ys : List ℕ) → IsPermutation xs ys → times i ys ≡ times i xs
times_moved i xs ys moved = sum_by-IsPermutation (λ j. cond (j == i) 1 0) xs ys moved

pub times_in_order : (i : ℕ) (before : ℕ → ℕ → Bool) (xs : List ℕ) → times i (in_order before xs) ≡ times i xs
times_in_order i before xs = times_moved i xs (in_order before xs) (in_order-permutation before xs)
