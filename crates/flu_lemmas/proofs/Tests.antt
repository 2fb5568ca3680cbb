-- Tests that compute: what a true conjunction, comparison or test of all elements says.
use Rattle.std.proofs.Common.{◌≡◌, ◌<◌, ◌≤◌, ℕ, zero, suc, Bool, true, false, List, [], ◌∷◌, length, get_or, refl, ap, ◌∙◌, arith}
use Rattle.std.specs.Prelude.{nat_lt, nat_le, ◌==◌, ◌&&◌, not}
use Rattle.std.specs.List.{list_all}
use Rattle.std.proofs.lemmas.Grind.{common_steps}

pub and_left : (a b : Bool) → (a && b) ≡ true → a ≡ true
and_left true b e = refl
and_left false b e = cc

pub and_right : (a b : Bool) → (a && b) ≡ true → b ≡ true
and_right true b e = e
and_right false b e = cc

pub both : (a b : Bool) → a ≡ true → b ≡ true → (a && b) ≡ true
both a b e f = ap (λ x. x && b) e ∙ f

-- a test has one answer
pub not_both : (b : Bool) → b ≡ true → b ≡ false → ⊥
not_both b e f = cc

pub false_if_not : (b : Bool) → (b ≡ true → ⊥) → b ≡ false
false_if_not true h = absurd (h refl)
false_if_not false h = refl

pub not_true : (b : Bool) → not b ≡ true → b ≡ false
not_true true e = cc
not_true false e = refl

pub lt_true : (a b : ℕ) → a < b → nat_lt a b ≡ true
lt_true a b lt = grind (arith, common_steps)

pub true_lt : (a b : ℕ) → nat_lt a b ≡ true → a < b
true_lt a b e = grind (arith, common_steps)

pub le_true : (a b : ℕ) → a ≤ b → nat_le a b ≡ true
le_true a b le = grind (arith, common_steps)

pub true_le : (a b : ℕ) → nat_le a b ≡ true → a ≤ b
true_le a b e = grind (arith, common_steps)

pub true_eq : (a b : ℕ) → (a == b) ≡ true → a ≡ b
true_eq a b e = grind (arith, common_steps)

-- what holds of all elements holds of the one at a place
pub all_at : {X : Type 0} (p : X → Bool) (xs : List X) (i : ℕ) (d : X) → list_all p xs ≡ true → i < length xs → p (get_or xs i d) ≡ true
all_at p [] i d e lt = absurd (omega arith)
all_at p (x ∷ xs) zero d e lt = and_left (p x) _ e
all_at p (x ∷ xs) (suc i) d e lt = all_at p xs i d (and_right (p x) _ e) (omega arith)
