-- Tests of some element, and ranges of numbers.
use Rattle.std.proofs.Common.{◌≡◌, ◌+◌, ◌-◌, ℕ, zero, suc, Bool, true, false, List, [], ◌∷◌, map, length, take, drop, refl, ap, ◌∙◌, sym, arith}
use Rattle.std.specs.Prelude.{nat_lt, nat_le, ◌==◌, ◌&&◌, ◌||◌, not, max, min}
use Rattle.std.specs.List.{list_any, range_with_len}
use Rattle.std.proofs.lemmas.Grind.{common_steps}

pub eq_true : (a b : ℕ) → a ≡ b → (a == b) ≡ true
eq_true a b e = grind (arith, common_steps)

pub list_any-map : {X : Type 0} (p : X → Bool) {Y : Type 0} (h : Y → X) (ys : List Y) → list_any p (map h ys) ≡ list_any (λ y. p (h y)) ys
list_any-map p h [] = refl
list_any-map p h (y ∷ ys) = ap (λ b. p (h y) || b) (list_any-map p h ys)

pub list_any_never : {X : Type 0} (xs : List X) → list_any (λ x. false) xs ≡ false
list_any_never [] = refl
list_any_never (x ∷ xs) = list_any_never xs

or_swap : (a b c d : Bool) → ((a || b) || (c || d)) ≡ ((a || c) || (b || d))
or_swap true b c d = refl
or_swap false true true d = refl
or_swap false true false d = refl
or_swap false false c d = refl

pub list_any_or : {X : Type 0} (p q : X → Bool) (xs : List X) → list_any (λ x. p x || q x) xs ≡ (list_any p xs || list_any q xs)
list_any_or p q [] = refl
list_any_or p q (x ∷ xs) = ap (λ b. (p x || q x) || b) (list_any_or p q xs) ∙ or_swap (p x) (q x) (list_any p xs) (list_any q xs)

pub list_any_and : {X : Type 0} (b : Bool) (p : X → Bool) (xs : List X) → list_any (λ x. b && p x) xs ≡ (b && list_any p xs)
list_any_and true p xs = refl
list_any_and false p xs = list_any_never xs

pub list_any_within : {X : Type 0} (p q : X → Bool) (xs : List X) → ((x : X) → p x ≡ q x) → list_any p xs ≡ list_any q xs
list_any_within p q [] e = refl
list_any_within p q (x ∷ xs) e = ap (λ b. b || list_any p xs) (e x) ∙ ap (λ b. q x || b) (list_any_within p q xs e)

member_step : (lo n j : ℕ) → ((j == lo) || (nat_le (lo + 1) j && nat_lt j (lo + 1 + n))) ≡ (nat_le lo j && nat_lt j (lo + suc n))
member_step lo n j = grind (arith, common_steps)

-- a number is in a range where it is between the ends
pub list_any-range : (j lo n : ℕ) → list_any (λ i. j == i) (range_with_len lo n) ≡ (nat_le lo j && nat_lt j (lo + n))
list_any-range j lo zero = grind (arith, common_steps)
list_any-range j lo (suc n) = ap (λ b. (j == lo) || b) (list_any-range j (lo + 1) n) ∙ member_step lo n j

meet_step : (lo n f l : ℕ) → ((nat_le f lo && nat_le lo l) || nat_lt (max (lo + 1) f) (min (lo + 1 + n) (l + 1))) ≡ nat_lt (max lo f) (min (lo + suc n) (l + 1))
meet_step lo n f l = grind (arith, common_steps)

-- two ranges have a number in common where the greater of their starts is before the lesser of their ends
pub ranges_meet : (f l lo n : ℕ) → list_any (λ k. nat_le f k && nat_le k l) (range_with_len lo n) ≡ nat_lt (max lo f) (min (lo + n) (l + 1))
ranges_meet f l lo zero = grind (arith, common_steps)
ranges_meet f l lo (suc n) = ap (λ b. (nat_le f lo && nat_le lo l) || b) (ranges_meet f l (lo + 1) n) ∙ meet_step lo n f l

-- all that is behind a place is what is dropped up to it
pub rest_whole : {X : Type 0} (xs : List X) (n : ℕ) → take (length xs - n) (drop n xs) ≡ drop n xs
rest_whole xs n = grind (arith, common_steps)

-- one step of a loop that asks of each element whether it is met again: it stops where one is
pub found_again : (whole here again rest : Bool) → here ≡ whole → here ≡ (not again && rest) → again ≡ true → false ≡ whole
found_again whole here again rest kept step found = ap (λ b. not b && rest) (sym found) ∙ sym step ∙ kept

-- and goes on where none is
pub not_again : (whole here again rest : Bool) → here ≡ whole → here ≡ (not again && rest) → again ≡ false → rest ≡ whole
not_again whole here again rest kept step none = ap (λ b. not b && rest) (sym none) ∙ sym step ∙ kept
