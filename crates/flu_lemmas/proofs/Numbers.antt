-- Tests on numbers, and what holds of all numbers below one.
use Rattle.std.proofs.Common.{◌≡◌, ℕ, ◌+◌, ◌<◌, ◌≤◌, true, false, subst, inl, inr, arith}
use Rattle.std.specs.Prelude.{nat_lt, nat_le, ◌==◌, ◌&&◌, max, min}
use Rattle.std.proofs.lemmas.Bool.{cases_lt}
use Rattle.std.proofs.lemmas.Grind.{common_steps}

-- ---- equal or not
pub same_number : (n : ℕ) → (n == n) ≡ true
same_number n = grind (arith, common_steps)

pub same_turns : (a b : ℕ) → (a == b) ≡ (b == a)
same_turns a b = grind (arith, common_steps)

pub apart_below : (a b : ℕ) → a < b → (a == b) ≡ false
apart_below a b lt = grind (arith, common_steps)

pub apart_above : (a b : ℕ) → a < b → (b == a) ≡ false
apart_above a b lt = grind (arith, common_steps)

pub above_from : (a b : ℕ) → a ≤ b → (b == a) ≡ false → a + 1 ≤ b
above_from a b le e = grind (arith, common_steps)

-- ---- less or not
pub none_left : (n : ℕ) → nat_lt 0 n ≡ false → 0 ≡ n
none_left n e = grind (arith, common_steps)

pub lt_wider : (n low high : ℕ) → low ≤ high → nat_lt n low ≡ true → nat_lt n high ≡ true
lt_wider n low high le e = grind (arith, common_steps)

pub not_less_than_itself : (n : ℕ) → nat_lt n n ≡ false
not_less_than_itself n = grind (arith, common_steps)

pub less_than_next : (n : ℕ) → nat_lt n (n + 1) ≡ true
less_than_next n = grind (arith, common_steps)

-- what is at least b is at least what b is at least
pub le_lower : (a b x : ℕ) → a ≤ b → nat_le b x ≡ true → nat_le a x ≡ true
le_lower a b x le e = grind (arith, common_steps)

-- no number is between one and itself
pub never_between : (a x : ℕ) → (nat_le a x && nat_lt x a) ≡ false
never_between a x = grind (arith, common_steps)

-- two spans of one thing meet whichever is named first
pub met_either_way : (k l f1 f2 l1 l2 : ℕ) → ((k == l) && nat_le (max f1 f2) (min l1 l2)) ≡ ((l == k) && nat_le (max f2 f1) (min l2 l1))
met_either_way k l f1 f2 l1 l2 = grind (arith, common_steps)

-- ---- one number more of those below
pub one_more : (P : ℕ → Type 0) (i : ℕ) → ((k : ℕ) → k < i → P k) → P i → (k : ℕ) → k < i + 1 → P k
one_more P i below here k lt =
    elim (cases_lt k i) [
      | inl less ↦ below k less
      | inr le ↦ let same : i ≡ k = omega arith in subst P same here
    ]
