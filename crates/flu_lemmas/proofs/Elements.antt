-- What holds of each element of a list.
use Rattle.std.proofs.Common.{◌≡◌, ◌≢◌, ℕ, zero, suc, Bool, true, false, cond, ◌⊎◌, inl, inr, Some, List, [], ◌∷◌, ◌++◌, length, refl, sym, ap, subst, ◌∙◌}
use Rattle.std.specs.Prelude.{not, ◌&&◌, ◌||◌, slice_get}
use Rattle.std.specs.List.{list_all, list_any, filter, flat_map, AllByRecursion}
use Rattle.std.specs.List.Sorted.{IsPermutation}
use Rattle.std.proofs.Math.ListN.{set}
use Rattle.std.proofs.lemmas.List.Folds.{list_all-append}
use Rattle.std.proofs.lemmas.List.Sorted.{list_any-IsPermutation}
use Rattle.flu_lemmas.specs.Elements.{AtEach}
use Rattle.flu_lemmas.proofs.Tests.{and_left, and_right, both}
use Rattle.flu_lemmas.proofs.Booleans.{or_true, or_false_left, or_false_right}

-- what follows for each element
pub all_map : {X : Type 0} (P Q : X → Type 0) (xs : List X) → ((x : X) → P x → Q x) → AllByRecursion P xs → AllByRecursion Q xs
all_map P Q [] f all = tt
all_map P Q (x ∷ xs) f all = (f x all.0, all_map P Q xs f all.1)

-- one more element at the end
pub all_push : {X : Type 0} (P : X → Type 0) (xs : List X) (x : X) → AllByRecursion P xs → P x → AllByRecursion P (xs ++ x ∷ [])
all_push P [] x all px = (px, tt)
all_push P (y ∷ xs) x all px = (all.0, all_push P xs x all.1 px)

-- all elements pass a test where none fails it
list_all-none_fails : {X : Type 0} (p : X → Bool) (xs : List X) → list_all p xs ≡ not (list_any (λ x. not (p x)) xs)
list_all-none_fails p [] = refl
list_all-none_fails p (x ∷ xs) =
    elim (p x) as (λ b. (b && list_all p xs) ≡ not (not b || list_any (λ y. not (p y)) xs)) [
      | true ↦ list_all-none_fails p xs
      | false ↦ refl
    ]

pub list_all-IsPermutation : {X : Type 0} (p : X → Bool) (xs ys : List X) → IsPermutation xs ys → list_all p xs ≡ list_all p ys
list_all-IsPermutation p xs ys moved =
    list_all-none_fails p xs ∙ ap not (list_any-IsPermutation (λ x. not (p x)) xs ys moved) ∙ sym (list_all-none_fails p ys)

-- ---- what a test of equality finds in a list
module _ {X : Type 0} (same : X → X → Bool) (is : (x y : X) → same x y ≡ true → x ≡ y) (itself : (x : X) → same x x ≡ true) where
  -- what holds of each element holds of one that is found
  pub found : (P : X → Type 0) (x : X) (ys : List X) → list_any (same x) ys ≡ true → AllByRecursion P ys → P x
  found P x [] e all = cc
  found P x (y ∷ ys) e all =
      elim (same x y) as (λ b. same x y ≡ b → (b || list_any (same x) ys) ≡ true → P x) [
        | true ↦ λ here rest. subst P (sym (is x y here)) all.0
        | false ↦ λ here rest. found P x ys rest all.1
      ] refl e

  -- each element is found
  pub found_itself : (ys : List X) → AllByRecursion (λ x. list_any (same x) ys ≡ true) ys
  found_itself [] = tt
  found_itself (y ∷ ys) = (
    ap (λ b. b || list_any (same y) ys) (itself y),
    all_map (λ x. list_any (same x) ys ≡ true) (λ x. list_any (same x) (y ∷ ys) ≡ true) ys
        (λ x here. ap (λ b. same x y || b) here ∙ or_true (same x y)) (found_itself ys),
  )

-- ---- what holds of each of two lists, one behind the other
pub all_front : {X : Type 0} (P : X → Type 0) (xs ys : List X) → AllByRecursion P (xs ++ ys) → AllByRecursion P xs
all_front P [] ys all = tt
all_front P (x ∷ xs) ys all = (all.0, all_front P xs ys all.1)

pub all_back : {X : Type 0} (P : X → Type 0) (xs ys : List X) → AllByRecursion P (xs ++ ys) → AllByRecursion P ys
all_back P [] ys all = all
all_back P (x ∷ xs) ys all = all_back P xs ys all.1

pub all_append : {X : Type 0} (P : X → Type 0) (xs ys : List X) → AllByRecursion P xs → AllByRecursion P ys → AllByRecursion P (xs ++ ys)
all_append P [] ys front back = back
all_append P (x ∷ xs) ys front back = (front.0, all_append P xs ys front.1 back)

-- ---- what holds of each element by more than one fact, or by none
pub all_of_both : {X : Type 0} (P Q R : X → Type 0) (xs : List X) → ((x : X) → P x → Q x → R x) → AllByRecursion P xs → AllByRecursion Q xs
    → AllByRecursion R xs
all_of_both P Q R [] f a b = tt
all_of_both P Q R (x ∷ xs) f a b = (f x a.0 b.0, all_of_both P Q R xs f a.1 b.1)

pub all_of_any : {X : Type 0} (P : X → Type 0) → ((x : X) → P x) → (xs : List X) → AllByRecursion P xs
all_of_any P f [] = tt
all_of_any P f (x ∷ xs) = (f x, all_of_any P f xs)

-- what holds of all that a list is made of holds of what each element gives
pub all_of_each : {X Y : Type 0} (P : Y → Type 0) (f : X → List Y) (xs : List X) → AllByRecursion P (flat_map f xs)
    → AllByRecursion (λ x. AllByRecursion P (f x)) xs
all_of_each P f [] all = tt
all_of_each P f (x ∷ xs) all = (all_front P (f x) (flat_map f xs) all, all_of_each P f xs (all_back P (f x) (flat_map f xs) all))

-- ---- what holds of the element at a place, and what holds at each place
pub all_at_place : {X : Type 0} (P : X → Type 0) (xs before after : List X) (x : X) → xs ≡ before ++ x ∷ after → AllByRecursion P xs → P x
all_at_place P xs before after x split all = (all_back P before (x ∷ after) (subst (AllByRecursion P) split all)).0

pub all_from_places : {X : Type 0} (P : X → Type 0) (xs : List X) → ((before after : List X) (x : X) → xs ≡ before ++ x ∷ after → P x) → AllByRecursion P xs
all_from_places P [] at = tt
all_from_places P (x ∷ xs) at = (at [] xs x refl, all_from_places P xs (λ before after y e. at (x ∷ before) after y (ap (λ us. x ∷ us) e)))

-- two places of one list: they are the same, or the one is before the other
abbrev pub Splits : {X : Type 0} → List X → X → List X → X → Type 0
Splits {X} xs x ys y =
    ((xs ≡ ys) × (x ≡ y))
    ⊎ (((mid : List X) × (xs ≡ ys ++ y ∷ mid))
    ⊎ ((mid : List X) × (ys ≡ xs ++ x ∷ mid)))

pub two_places : {X : Type 0} (xs ys us vs : List X) (x y : X) → xs ++ x ∷ us ≡ ys ++ y ∷ vs → Splits xs x ys y
two_places [] [] us vs x y e = inl (refl, cc)
two_places [] (v ∷ ys) us vs x y e = let same : x ≡ v = cc in inr (inr (ys, λ i. sym same i ∷ ys))
two_places (u ∷ xs) [] us vs x y e = let same : u ≡ y = cc in inr (inl (xs, λ i. same i ∷ xs))
two_places (u ∷ xs) (v ∷ ys) us vs x y e =
    let first : u ≡ v = cc in
    let rest : xs ++ x ∷ us ≡ ys ++ y ∷ vs = cc in
    elim (two_places xs ys us vs x y rest) [
      | inl same ↦ inl ((λ i. first i ∷ same.0 i), same.1)
      | inr (inl h) ↦ inr (inl (h.0, λ i. first i ∷ h.1 i))
      | inr (inr h) ↦ inr (inr (h.0, λ i. sym first i ∷ h.1 i))
    ]

-- ---- what holds of the elements that pass a test
pub all_filter : {X : Type 0} (P : X → Type 0) (f : X → Bool) (xs : List X) → AllByRecursion (λ x. f x ≡ true → P x) xs → AllByRecursion P (filter f xs)
all_filter P f [] all = tt
all_filter P f (x ∷ xs) all =
    elim (f x) as (λ b. f x ≡ b → AllByRecursion P (cond b (x ∷ filter f xs) (filter f xs))) [
      | true ↦ λ e. (all.0 e, all_filter P f xs all.1)
      | false ↦ λ e. all_filter P f xs all.1
    ] refl

-- two tests that agree on each element
pub filter_same : {X : Type 0} (f g : X → Bool) (xs : List X) → AllByRecursion (λ x. f x ≡ g x) xs → filter f xs ≡ filter g xs
filter_same f g [] all = refl
filter_same f g (x ∷ xs) all = λ i. cond (all.0 i) (x ∷ filter_same f g xs all.1 i) (filter_same f g xs all.1 i)

-- ---- what holds of each element with its index
pub each_set : {X : Type 0} (R : ℕ → X → Type 0) (xs : List X) (i : ℕ) (v : X) → AtEach R xs → R i v → AtEach R (set xs i v)
each_set R [] i v h r j x e = cc
each_set R (y ∷ ys) zero v h r zero x e = subst (R 0) (let same : v ≡ x = cc in same) r
each_set R (y ∷ ys) zero v h r (suc j) x e = h (suc j) x e
each_set R (y ∷ ys) (suc i) v h r zero x e = h 0 x e
each_set R (y ∷ ys) (suc i) v h r (suc j) x e = each_set (λ n. R (suc n)) ys i v (λ n z q. h (suc n) z q) r j x e

pub each_push : {X : Type 0} (R : ℕ → X → Type 0) (xs : List X) (v : X) → AtEach R xs → R (length xs) v → AtEach R (xs ++ v ∷ [])
each_push R [] v h r zero x e = subst (R 0) (let same : v ≡ x = cc in same) r
each_push R [] v h r (suc j) x e = cc
each_push R (y ∷ ys) v h r zero x e = h 0 x e
each_push R (y ∷ ys) v h r (suc j) x e = each_push (λ n. R (suc n)) ys v (λ n z q. h (suc n) z q) r j x e

-- ---- tests of all elements
pub list_all_weaker : {X : Type 0} (p q : X → Bool) (xs : List X) → ((x : X) → p x ≡ true → q x ≡ true) → list_all p xs ≡ true → list_all q xs ≡ true
list_all_weaker p q [] f e = refl
list_all_weaker p q (x ∷ xs) f e = both (q x) _ (f x (and_left (p x) _ e)) (list_all_weaker p q xs f (and_right (p x) _ e))

pub list_all_same : {X : Type 0} (p q : X → Bool) (xs : List X) → ((x : X) → p x ≡ q x) → list_all p xs ≡ list_all q xs
list_all_same p q [] f = refl
list_all_same p q (x ∷ xs) f = ap (λ b. b && list_all p xs) (f x) ∙ ap (λ b. q x && b) (list_all_same p q xs f)

-- one element more at the end
pub list_all_push : {X : Type 0} (p : X → Bool) (xs : List X) (x : X) → list_all p xs ≡ true → p x ≡ true → list_all p (xs ++ x ∷ []) ≡ true
list_all_push p xs x all passes = list_all-append p xs (x ∷ []) ∙ both (list_all p xs) (p x && true) all (ap (λ b. b && true) passes)

-- two tests that all elements pass
pub list_all_both : {X : Type 0} (p q : X → Bool) (xs : List X) → list_all p xs ≡ true → list_all q xs ≡ true → list_all (λ x. p x && q x) xs ≡ true
list_all_both p q [] e f = refl
list_all_both p q (x ∷ xs) e f =
    both (p x && q x) _ (both (p x) (q x) (and_left (p x) _ e) (and_left (q x) _ f)) (list_all_both p q xs (and_right (p x) _ e) (and_right (q x) _ f))

-- the element at a place passes where all do, and fails where none passes
pub passes_at : {X : Type 0} (p : X → Bool) (xs : List X) (i : ℕ) (x : X) → list_all p xs ≡ true → slice_get xs i ≡ Some x → p x ≡ true
passes_at p [] i x all e = absurd cc
passes_at p (y ∷ ys) zero x all e = let same : y ≡ x = cc in ap p (sym same) ∙ and_left (p y) (list_all p ys) all
passes_at p (y ∷ ys) (suc i) x all e = passes_at p ys i x (and_right (p y) (list_all p ys) all) e

pub fails_at : {X : Type 0} (p : X → Bool) (xs : List X) (i : ℕ) (x : X) → list_any p xs ≡ false → slice_get xs i ≡ Some x → p x ≡ false
fails_at p [] i x none e = absurd cc
fails_at p (y ∷ ys) zero x none e = let same : y ≡ x = cc in ap p (sym same) ∙ or_false_left (p y) (list_any p ys) none
fails_at p (y ∷ ys) (suc i) x none e = fails_at p ys i x (or_false_right (p y) (list_any p ys) none) e

-- one element that passes a test, among those that all pass another
pub from_any : {X Q : Type 0} (f p : X → Bool) (xs : List X) → list_all f xs ≡ true → list_any p xs ≡ true → ((x : X) → f x ≡ true → p x ≡ true → Q) → Q
from_any f p [] all any use_one = cc
from_any {Q = Q} f p (x ∷ xs) all any use_one =
    elim (p x) as (λ b. p x ≡ b → (b || list_any p xs) ≡ true → Q) [
      | true ↦ λ e a. use_one x (and_left _ _ all) e
      | false ↦ λ e a. from_any f p xs (and_right _ _ all) a use_one
    ] refl any

-- ---- a list with an element at its end
pub push_some : {X : Type 0} (xs : List X) (x : X) → xs ++ x ∷ [] ≢ []
push_some [] x = λ e. cc
push_some (y ∷ xs) x = λ e. cc
