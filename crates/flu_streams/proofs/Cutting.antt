-- A list that is put in order is cut where all elements that pass a test come before all others.
use Rattle.std.proofs.Common.{◌≡◌, ℕ, arith, Bool, true, false, cond, List, [], ◌∷◌, ◌++◌, refl, sym, ap, ◌∙◌}
use Rattle.std.specs.Prelude.{not, nat_lt, nat_le, ◌&&◌}
use Rattle.std.proofs.lemmas.Bool.Decides.{nat_tests}
use Rattle.std.specs.List.{filter, list_all}
use Rattle.flu_lemmas.specs.Sorting.{put_in_order, in_order}
use Rattle.flu_lemmas.proofs.Elements.{list_all-IsPermutation}
use Rattle.flu_lemmas.proofs.Sorting.{in_order-permutation}
use Rattle.flu_lemmas.proofs.Tests.{and_left, and_right, not_true}

-- ---- elements that pass a test
pub all_kept : {X : Type 0} (p : X → Bool) (xs : List X) → list_all p (filter p xs) ≡ true
all_kept p [] = refl
all_kept p (x ∷ xs) =
    elim (p x) as (λ b. p x ≡ b → list_all p (cond b (x ∷ filter p xs) (filter p xs)) ≡ true) [
      | true ↦ λ e. ap (λ b. b && list_all p (filter p xs)) e ∙ all_kept p xs
      | false ↦ λ e. all_kept p xs
    ] refl

pub kept_all : {X : Type 0} (p : X → Bool) (xs : List X) → list_all p xs ≡ true → filter p xs ≡ xs
kept_all p [] all = refl
kept_all p (x ∷ xs) all = rw (and_left (p x) _ all) (ap (λ l. x ∷ l) (kept_all p xs (and_right (p x) _ all)))

pub kept_none : {X : Type 0} (p : X → Bool) (xs : List X) → list_all (λ x. not (p x)) xs ≡ true → filter p xs ≡ []
kept_none p [] all = refl
kept_none p (x ∷ xs) all = rw (not_true (p x) (and_left (not (p x)) _ all)) (kept_none p xs (and_right (not (p x)) _ all))

-- ---- the order of two parts
module _ {X : Type 0} (before : X → X → Bool) (early : X → Bool)
    (first : (x y : X) → early x ≡ true → early y ≡ false → before x y ≡ true)
    (last : (x y : X) → early x ≡ false → early y ≡ true → before x y ≡ false) where
  put_first : (x : X) (us vs : List X) → early x ≡ true → list_all (λ y. not (early y)) vs ≡ true
      → put_in_order before x (us ++ vs) ≡ put_in_order before x us ++ vs
  put_first x [] [] e all = refl
  put_first x [] (b ∷ vs) e all = rw (first x b e (not_true (early b) (and_left (not (early b)) _ all))) refl
  put_first x (a ∷ us) vs e all =
      elim (before x a) as (λ t. cond t (x ∷ a ∷ (us ++ vs)) (a ∷ put_in_order before x (us ++ vs))
      ≡ cond t (x ∷ a ∷ us) (a ∷ put_in_order before x us) ++ vs) [
        | true ↦ refl
        | false ↦ ap (λ l. a ∷ l) (put_first x us vs e all)
      ]

  put_last : (x : X) (us vs : List X) → early x ≡ false → list_all early us ≡ true
      → put_in_order before x (us ++ vs) ≡ us ++ put_in_order before x vs
  put_last x [] vs e all = refl
  put_last x (a ∷ us) vs e all =
      rw (last x a e (and_left (early a) _ all)) (ap (λ l. a ∷ l) (put_last x us vs e (and_right (early a) _ all)))

  pub all_early : (xs : List X) → list_all early (in_order before (filter early xs)) ≡ true
  all_early xs = sym (list_all-IsPermutation early (filter early xs) (in_order before (filter early xs)) (in_order-permutation before (filter early xs)))
      ∙ all_kept early xs

  pub all_late : (xs : List X) → list_all (λ y. not (early y)) (in_order before (filter (λ y. not (early y)) xs)) ≡ true
  all_late xs =
      let late = λ (y : X). not (early y) in
      sym (list_all-IsPermutation late (filter late xs) (in_order before (filter late xs)) (in_order-permutation before (filter late xs))) ∙ all_kept late xs

  pub in_order-cut : (xs : List X) → in_order before xs ≡ in_order before (filter early xs) ++ in_order before (filter (λ y. not (early y)) xs)
  in_order-cut [] = refl
  in_order-cut (x ∷ xs) =
      let us = filter early xs in
      let vs = filter (λ y. not (early y)) xs in
      elim (early x) as (λ b. early x ≡ b → put_in_order before x (in_order before xs) ≡ in_order before (cond b (x ∷ us) us)
      ++ in_order before (cond (not b) (x ∷ vs) vs)) [
        | true ↦ λ e. ap (put_in_order before x) (in_order-cut xs) ∙ put_first x (in_order before us) (in_order before vs) e (all_late xs)
        | false ↦ λ e. ap (put_in_order before x) (in_order-cut xs) ∙ put_last x (in_order before us) (in_order before vs) e (all_early xs)
      ] refl

-- ---- times
pub not_not : (b : Bool) → not (not b) ≡ b
not_not true = refl
not_not false = refl

-- a time is later exactly where it is not at most the other
pub later_is : (t n : ℕ) → nat_lt t n ≡ not (nat_le n t)
later_is t n = grind (arith, nat_tests)
