-- The bits of a number of 64 bits of which one is set or cleared, or whose low ones are cleared.
use Rattle.std.proofs.Common.{◌≡◌, ◌<◌, ◌≤◌, ◌-◌, ◌*◌, ◌%◌, ◌^◌, ℕ, true, false, min, refl, sym, ap, ◌∙◌, arith, eqb}
use Rattle.std.specs.Prelude.{◌==◌, ◌&&◌, ◌||◌, not, bit_and, bit_or}
use Rattle.std.specs.Int.{w64, bit_at, bit_not, trailing_zeros}
use Rattle.std.proofs.lemmas.Bool.{eqb-false}
use Rattle.std.proofs.lemmas.Nat.{and_le_l}
use Rattle.std.proofs.lemmas.Nat.Bits.{bit_at-lt, bit_at-zero, bit_at_and, bit_at_set_same, bit_at_set_other, bit_at_clear_same, bit_at_clear_other}
use Rattle.std.proofs.lemmas.Nat.Bits.{bit_at_mask_inside, bit_at_mask_below, ones_shl, bit_at-trailing_zeros}
use Rattle.flu_lemmas.proofs.Tests.{true_eq}

pub is_set : (n k j : ℕ) → k < 64 → (bit_at (bit_or n (1 * 2 ^ k % 2 ^ 64)) j == 1) ≡ ((j == k) || (bit_at n j == 1))
is_set n k j lt =
    elim (eqb j k) as (λ b. eqb j k ≡ b → (bit_at (bit_or n (1 * 2 ^ k % 2 ^ 64)) j == 1) ≡ (b || (bit_at n j == 1))) [
      | true ↦ λ e. ap (λ i. bit_at (bit_or n (1 * 2 ^ k % 2 ^ 64)) i == 1) (true_eq j k e) ∙ ap (λ b. b == 1) (bit_at_set_same w64 n k lt)
      | false ↦ λ e. ap (λ b. b == 1) (bit_at_set_other w64 n k lt j (eqb-false j k e))
    ] refl

pub is_cleared : (n k j : ℕ) → k < 64 → j < 64 → (bit_at (bit_and n (bit_not w64 (1 * 2 ^ k % 2 ^ 64))) j == 1) ≡ (not (j == k) && (bit_at n j == 1))
is_cleared n k j lt below =
    elim (eqb j k) as (λ b. eqb j k ≡ b → (bit_at (bit_and n (bit_not w64 (1 * 2 ^ k % 2 ^ 64))) j == 1) ≡ (not b && (bit_at n j == 1))) [
      | true ↦ λ e. ap (λ i. bit_at (bit_and n (bit_not w64 (1 * 2 ^ k % 2 ^ 64))) i == 1) (true_eq j k e) ∙ ap (λ b. b == 1) (bit_at_clear_same w64 n k lt)
      | false ↦ λ e. ap (λ b. b == 1) (bit_at_clear_other w64 n k lt j below (eqb-false j k e))
    ] refl

-- ---- the bits from a place on
-- the mask that has these bits
abbrev pub from_on : ℕ → ℕ
from_on f = (2 ^ 64 - 1) * 2 ^ f % 2 ^ 64

min_one : (a b : ℕ) → a < 2 → b ≡ 1 → min a b ≡ a
min_one a b lt e = omega arith

min_zero : (a b : ℕ) → b ≡ 0 → min a b ≡ 0
min_zero a b e = omega arith

pub kept_from : (n f i : ℕ) → f < 64 → f ≤ i → i < 64 → bit_at (bit_and n (from_on f)) i ≡ bit_at n i
kept_from n f i lt le below =
    bit_at_and n (from_on f) i
    ∙ min_one (bit_at n i) (bit_at (from_on f) i) (bit_at-lt n i) (ap (λ m. bit_at m i) (ones_shl 64 f (omega arith)) ∙ bit_at_mask_inside f 64 i le below)

gone_below : (n f i : ℕ) → f < 64 → i < f → bit_at (bit_and n (from_on f)) i ≡ 0
gone_below n f i lt below =
    bit_at_and n (from_on f) i
    ∙ min_zero (bit_at n i) (bit_at (from_on f) i) (ap (λ m. bit_at m i) (ones_shl 64 f (omega arith)) ∙ bit_at_mask_below f 64 i below)

pub none_from : (n f i : ℕ) → f < 64 → bit_and n (from_on f) ≡ 0 → f ≤ i → i < 64 → (bit_at n i == 1) ≡ false
none_from n f i lt none le below = ap (λ b. b == 1) (sym (kept_from n f i lt le below) ∙ ap (λ m. bit_at m i) none ∙ bit_at-zero i)

-- the first bit from f on is k
pub record IsFirstFrom (n f k : ℕ) : Type 0 where
  pub from : f ≤ k
  pub below : k < 64
  pub there : (bit_at n k == 1) ≡ true
  pub before : (i : ℕ) → f ≤ i → i < k → (bit_at n i == 1) ≡ false

not_before : (n f k : ℕ) → f < 64 → bit_at (bit_and n (from_on f)) k ≡ 1 → k < f → f ≤ k
not_before n f k lt one below = absurd (omega (arith, gone_below n f k lt below, one))

from_or_before : (n f k : ℕ) → f < 64 → bit_at (bit_and n (from_on f)) k ≡ 1 → f ≤ k
from_or_before n f k lt one = let h : k < f → f ≤ k = not_before n f k lt one in grind (arith, h)

pub first_from : (n f : ℕ) → n < 2 ^ 64 → f < 64 → 0 < bit_and n (from_on f) → IsFirstFrom n f (trailing_zeros w64 (bit_and n (from_on f)))
first_from n f small lt some =
    let rest : ℕ = bit_and n (from_on f) in
    let k : ℕ = trailing_zeros w64 rest in
    let least = bit_at-trailing_zeros w64 rest some (omega (arith, and_le_l n (from_on f))) in
    let le : f ≤ k = from_or_before n f k lt least.1 in
    record {
      from = le;
      below = least.0;
      there = ap (λ b. b == 1) (sym (kept_from n f k lt le least.0) ∙ least.1);
      before = λ i at before. ap (λ b. b == 1) (sym (kept_from n f i lt at (omega (arith, least.0, before))) ∙ least.2 i before);
    }
