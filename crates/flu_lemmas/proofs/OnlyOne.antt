-- Lists in which one element alone passes a test.
use Rattle.std.proofs.Common.{◌≡◌, ◌≤◌, ◌+◌, ℕ, zero, suc, Bool, true, false, cond, Some, None, List, [], ◌∷◌, length, inl, inr, refl, sym, ap, ◌∙◌, arith}
use Rattle.std.specs.Prelude.{count_by, position, slice_get, option_map}
use Rattle.std.specs.List.{position_or_len}
use Rattle.std.proofs.lemmas.Bool.{cases_lt}
use Rattle.std.proofs.lemmas.List.Sums.{sum_by-cons}
use Rattle.flu_lemmas.proofs.Places.{position-cons}
use Rattle.flu_lemmas.proofs.Tests.{lt_true}

-- the count of a list is that of its first element and of the rest
pub count_by-cons : {X : Type 0} (p : X → Bool) (x : X) (xs : List X) (b : Bool) → p x ≡ b → count_by p (x ∷ xs) ≡ cond b 1 0 + count_by p xs
count_by-cons p x xs b e = sum_by-cons (λ y. cond (p y) 1 0) x xs ∙ ap (λ c. cond c 1 0 + count_by p xs) e

none_counted : {X : Type 0} (p : X → Bool) (xs : List X) → length xs ≤ position_or_len p xs → count_by p xs ≡ 0
none_counted p [] le = refl
none_counted p (x ∷ xs) le = sum_by-cons (λ y. cond (p y) 1 0) x xs ∙ at_test (p x) refl (none_counted p xs)
  where
    at_test : (b : Bool) → p x ≡ b → (length xs ≤ position_or_len p xs → count_by p xs ≡ 0) → cond (p x) 1 0 + count_by p xs ≡ 0
    at_test true e h = absurd (let le2 = rw e at le in omega arith)
    at_test false e h = let le2 = rw e at le in rw e (let here : count_by p xs ≡ 0 = h (omega arith) in omega arith)

not_none : (n : ℕ) → Some n ≡ None → ⊥
not_none n e = cc

-- what is counted stands somewhere
pub counted_stands : {X : Type 0} (p : X → Bool) (xs : List X) → count_by p xs ≡ 1 → position p xs ≡ None → ⊥
counted_stands p xs one none =
    elim (cases_lt (position_or_len p xs) (length xs)) [
      | inl lt ↦ absurd (not_none (position_or_len p xs)
          (sym (ap (λ b. cond b (Some (position_or_len p xs)) None) (lt_true (position_or_len p xs) (length xs) lt)) ∙ none))
      | inr le ↦ (let nothing = none_counted p xs le in omega arith)
    ]

pub counted_at : {X : Type 0} (p : X → Bool) (xs : List X) → count_by p xs ≡ 1 → (w : ℕ) × (position p xs ≡ Some w)
counted_at p xs one =
    elim (position p xs) as (λ o. position p xs ≡ o → (w : ℕ) × (position p xs ≡ Some w)) [
      | None ↦ λ none. absurd (counted_stands p xs one none)
      | Some w ↦ λ some. (w, some)
    ] refl

-- what passes is counted
pub some_counted : {X : Type 0} (p : X → Bool) (xs : List X) (w : ℕ) (x : X) → slice_get xs w ≡ Some x → p x ≡ true → 1 ≤ count_by p xs
some_counted p [] w x e pass = cc
some_counted p (y ∷ ys) zero x e pass =
    let same : y ≡ x = cc in
    let here = count_by-cons p y ys true (ap p same ∙ pass) in
    omega arith
some_counted p (y ∷ ys) (suc w) x e pass =
    let rest = some_counted p ys w x e pass in
    let here = count_by-cons p y ys (p y) refl in
    omega arith

-- where one element alone passes, the first that passes is any that does
pub position_of_one : {X : Type 0} (p : X → Bool) (xs : List X) (w : ℕ) (x : X) → count_by p xs ≡ 1 → slice_get xs w ≡ Some x → p x ≡ true
    → position p xs ≡ Some w
position_of_one p [] w x one e pass = cc
position_of_one p (y ∷ ys) zero x one e pass =
    let same : y ≡ x = cc in
    position-cons p y ys ∙ ap (λ b. cond b (Some 0) (option_map (λ i. i + 1) (position p ys))) (ap p same ∙ pass)
position_of_one p (y ∷ ys) (suc w) x one e pass = at_test (p y) refl (λ rest. position_of_one p ys w x rest e pass)
  where
    at_test : (b : Bool) → p y ≡ b → (count_by p ys ≡ 1 → position p ys ≡ Some w) → position p (y ∷ ys) ≡ Some (suc w)
    at_test true t more =
        let rest = some_counted p ys w x e pass in
        let here = count_by-cons p y ys true t in
        absurd (omega arith)
    at_test false t more =
        let here = count_by-cons p y ys false t in
        let number : w + 1 ≡ suc w = omega arith in
        position-cons p y ys
        ∙ ap (λ b. cond b (Some 0) (option_map (λ i. i + 1) (position p ys))) t
        ∙ ap (option_map (λ i. i + 1)) (more (omega arith))
        ∙ ap Some number
