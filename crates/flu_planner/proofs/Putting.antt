-- An element put in order among others by its place.
use Rattle.std.proofs.Common.{◌≡◌, ◌<◌, ◌≤◌, ◌+◌, ℕ, suc, Bool, true, false, cond, List, [], ◌∷◌, length, drop, get_or, refl, sym, ap, subst, ◌∙◌, arith}
use Rattle.std.specs.Prelude.{not, nat_lt, position, Some, None}
use Rattle.std.specs.List.{position_or_len, insert}
use Rattle.std.proofs.lemmas.Bool.{ltb-false}
use Rattle.std.proofs.lemmas.List.{drop_more}
use Rattle.flu_lemmas.specs.Sorting.{in_order, put_in_order}

-- an element is put where it is first before another, or at the end
pub put_at_place : {X : Type 0} (before : X → X → Bool) (x : X) (ys : List X) → put_in_order before x ys ≡ insert ys (position_or_len (before x) ys) x
put_at_place before x [] = refl
put_at_place before x (y ∷ ys) =
    elim (before x y) as (λ b. before x y ≡ b → cond b (x ∷ y ∷ ys) (y ∷ put_in_order before x ys) ≡ insert (y ∷ ys)
    (cond (not b) (1 + position_or_len (before x) ys) 0) x) [
      | true ↦ λ less. refl
      | false ↦ λ not_less.
          (let step : 1 + position_or_len (before x) ys ≡ suc (position_or_len (before x) ys) = omega arith in
          subst (λ n. y ∷ put_in_order before x ys ≡ insert (y ∷ ys) n x) (sym step) (ap (λ zs. y ∷ zs) (put_at_place before x ys)))
    ] refl

-- a loop that puts the elements in order from the last one on
pub in_order_more : {X : Type 0} (before : X → X → Bool) (xs : List X) (k : ℕ) (d : X) (order : List X) → k < length xs
    → order ≡ in_order before (drop (k + 1) xs) → insert order (position_or_len (before (get_or xs k d)) order) (get_or xs k d) ≡ in_order before (drop k xs)
in_order_more before xs k d order lt e =
    sym (put_at_place before (get_or xs k d) order) ∙ ap (put_in_order before (get_or xs k d)) e ∙ sym (ap (in_order before) (drop_more xs k d lt))

-- ---- places
place_is : (b : Bool) (n k : ℕ) → cond b (Some n) None ≡ Some k → k ≡ n
place_is true n k e = cc
place_is false n k e = cc

no_place_is : (b : Bool) (n : ℕ) → cond b (Some n) None ≡ None → b ≡ false
no_place_is true n e = cc
no_place_is false n e = refl

pub place_at_some : {X : Type 0} (p : X → Bool) (xs : List X) (k : ℕ) → position p xs ≡ Some k → k ≡ position_or_len p xs
place_at_some p xs k e = place_is (nat_lt (position_or_len p xs) (length xs)) (position_or_len p xs) k e

pub place_within : {X : Type 0} (p : X → Bool) (xs : List X) → position_or_len p xs ≤ length xs
place_within p [] = omega arith
place_within p (x ∷ xs) =
    let rest : position_or_len p xs ≤ length xs = place_within p xs in
    elim (p x) as (λ b. cond (not b) (1 + position_or_len p xs) 0 ≤ length (x ∷ xs)) [ true ↦ omega arith | false ↦ omega arith ]

pub place_at_none : {X : Type 0} (p : X → Bool) (xs : List X) → position p xs ≡ None → length xs ≡ position_or_len p xs
place_at_none p xs e =
    let past : length xs ≤ position_or_len p xs = ltb-false (position_or_len p xs) (length xs)
    (no_place_is (nat_lt (position_or_len p xs) (length xs)) (position_or_len p xs) e) in
    let within : position_or_len p xs ≤ length xs = place_within p xs in
    omega arith
