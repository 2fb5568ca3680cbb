-- The order by a time and then a number, as a test and as a comparison.
use Rattle.std.proofs.Common.{◌≡◌, ◌<◌, ℕ, Bool, true, false, subst, arith}
use Rattle.std.specs.Prelude.{nat_lt, ◌==◌, ◌&&◌, ◌||◌}
use Rattle.std.specs.Cmp.{IsStrictWeakOrder}
use Rattle.std.specs.Ordering.{nat_cmp, ordering_then, is_lt}
use Rattle.std.proofs.lemmas.Grind.{common_steps}
use Rattle.flu_lemmas.proofs.TwoNumbers.{by_two, by_two-ranks}

-- ---- of a time s with a number i, and of a time t with a number j
pub in_time : (s i t j : ℕ) → s < t → (nat_lt s t || (s == t && nat_lt i j)) ≡ true
in_time s i t j lt = grind (arith, common_steps)

pub not_back : (s i t j : ℕ) → (nat_lt s t || (s == t && nat_lt i j)) ≡ true → (nat_lt t s || (t == s && nat_lt j i)) ≡ false
not_back s i t j e = grind (arith, common_steps)

by_cmp : (s i t j : ℕ) → is_lt (ordering_then (nat_cmp s t) (nat_cmp i j)) ≡ (nat_lt s t || (s == t && nat_lt i j))
by_cmp s i t j = grind (arith, common_steps)

-- ---- of values with a time and a number
abbrev pub earlier : {X : Type 0} → (X → ℕ) → (X → ℕ) → X → X → Bool
earlier time number x y = nat_lt (time x) (time y) || (time x == time y && nat_lt (number x) (number y))

pub earlier-cmp : {X : Type 0} (time number : X → ℕ) → (λ x y. is_lt (by_two time number x y)) ≡ earlier time number
earlier-cmp time number = λ i x y. by_cmp (time x) (number x) (time y) (number y) i

pub earlier-ranks : {X : Type 0} (time number : X → ℕ) → IsStrictWeakOrder (earlier time number)
earlier-ranks time number = subst IsStrictWeakOrder (earlier-cmp time number) (by_two-ranks time number)
