-- Laws of tests that are joined, beside those of std's Bool: what `or` and `not` say and how they are regrouped.
use Rattle.std.proofs.Common.{◌≡◌, Bool, true, false, refl, sym, ap}
use Rattle.std.specs.Prelude.{◌&&◌, ◌||◌, not}
use Rattle.std.proofs.lemmas.Bool.{or_parts}
use Rattle.flu_lemmas.proofs.Tests.{and_left, and_right}

-- ---- with true and false
pub or_true : (a : Bool) → (a || true) ≡ true
or_true true = refl
or_true false = refl

pub or_false : (a : Bool) → (a || false) ≡ a
or_false true = refl
or_false false = refl

pub and_false : (a : Bool) → (a && false) ≡ false
and_false true = refl
and_false false = refl

-- ---- the parts of what is false, and of three tests
pub or_false_left : (a b : Bool) → (a || b) ≡ false → a ≡ false
or_false_left a b e = (or_parts a b e).0

pub or_false_right : (a b : Bool) → (a || b) ≡ false → b ≡ false
or_false_right a b e = (or_parts a b e).1

-- the one of two that passes, where the other fails
pub or_front : (a b : Bool) → (a || b) ≡ true → b ≡ false → a ≡ true
or_front true b e f = refl
or_front false b e f = absurd cc

pub none_of_three : (a b c : Bool) → (a || b || c) ≡ false → (a ≡ false) × (b ≡ false) × (c ≡ false)
none_of_three a b c e = let front = or_false_left (a || b) c e in (or_false_left a b front, or_false_right a b front, or_false_right (a || b) c e)

pub three_left : (a b c : Bool) → (a && b && c) ≡ true → a ≡ true
three_left a b c h = and_left a b (and_left (a && b) c h)

pub three_middle : (a b c : Bool) → (a && b && c) ≡ true → b ≡ true
three_middle a b c h = and_right a b (and_left (a && b) c h)

pub three_right : (a b c : Bool) → (a && b && c) ≡ true → c ≡ true
three_right a b c h = and_right (a && b) c h

-- of the first two of four tests
pub four_first : (a b c d : Bool) → (a && b && c && d) ≡ true → a ≡ true
four_first a b c d h = three_left a b c (and_left (a && b && c) d h)

pub four_second : (a b c d : Bool) → (a && b && c && d) ≡ true → b ≡ true
four_second a b c d h = three_middle a b c (and_left (a && b && c) d h)

-- ---- regrouped
pub or_turns : (a b : Bool) → (a || b) ≡ (b || a)
or_turns true true = refl
or_turns true false = refl
or_turns false true = refl
or_turns false false = refl

pub or_assoc : (a b c : Bool) → ((a || b) || c) ≡ (a || (b || c))
or_assoc true b c = refl
or_assoc false b c = refl

pub not_or : (a b : Bool) → not (a || b) ≡ (not a && not b)
not_or true b = refl
not_or false b = refl

pub not_and_not : (a b : Bool) → not (a && not b) ≡ (not a || b)
not_and_not true true = refl
not_and_not true false = refl
not_and_not false b = refl

pub turned : (a b : Bool) → a ≡ not b → b ≡ not a
turned a true e = ap not (sym e)
turned a false e = ap not (sym e)

-- ---- what follows from what
pub or_still : (a b c : Bool) → (b ≡ true → c ≡ true) → (a || b) ≡ true → (a || c) ≡ true
or_still true b c f e = refl
or_still false b c f e = f e

-- `not a || b` says that b follows from a
pub second_of : (a b : Bool) → a ≡ true → (not a || b) ≡ true → b ≡ true
second_of true b e h = h
second_of false b e h = cc

pub first_or : (a b : Bool) → (a ≡ true → b ≡ true) → (not a || b) ≡ true
first_or true b f = f refl
first_or false b f = refl
