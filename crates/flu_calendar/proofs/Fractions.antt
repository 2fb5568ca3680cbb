-- The units of a fraction, digit by digit.
use Rattle.std.proofs.Common.{◌≡◌, ℕ, zero, suc, ◌+◌, ◌*◌, ◌/◌, ◌-◌, ◌^◌, ◌<◌, ◌≤◌, true, List, length, get_or, take, refl, arith}
use Rattle.std.proofs.Math.Nat.{mul-le-mul_left}
use Rattle.std.proofs.Math.Seq.{take-length}
use Rattle.std.specs.Char.{is_ascii_digit, digit_value}
use Rattle.std.specs.Str.Parse.{digits_value}
use Rattle.std.proofs.lemmas.Str.{digit_value_digit}
use Rattle.std.proofs.lemmas.Int.Digits.{digits_value_more}
use Rattle.flu_lemmas.proofs.Digits.{digit_in_range}
use Rattle.flu_calendar.specs.declared.unit.Unit.{Unit}
use Rattle.flu_calendar.specs.declared.unit.Unit.TheVariants.{Seconds, Milliseconds, Microseconds}
use Rattle.flu_calendar.specs.Units.{units_in_second}

-- a digit weighs a tenth of what the one before it weighs
pub weight_step : (unit : Unit) (i : ℕ) → i < 9 → units_in_second unit / 10 ^ i / 10 ≡ units_in_second unit / 10 ^ (i + 1)
weight_step Seconds zero h = refl
weight_step Seconds (suc zero) h = refl
weight_step Seconds (suc (suc zero)) h = refl
weight_step Seconds (suc (suc (suc zero))) h = refl
weight_step Seconds (suc (suc (suc (suc zero)))) h = refl
weight_step Seconds (suc (suc (suc (suc (suc zero))))) h = refl
weight_step Seconds (suc (suc (suc (suc (suc (suc zero)))))) h = refl
weight_step Seconds (suc (suc (suc (suc (suc (suc (suc zero))))))) h = refl
weight_step Seconds (suc (suc (suc (suc (suc (suc (suc (suc zero)))))))) h = refl
weight_step Seconds (suc (suc (suc (suc (suc (suc (suc (suc (suc n))))))))) h = absurd (omega arith)
weight_step Milliseconds zero h = refl
weight_step Milliseconds (suc zero) h = refl
weight_step Milliseconds (suc (suc zero)) h = refl
weight_step Milliseconds (suc (suc (suc zero))) h = refl
weight_step Milliseconds (suc (suc (suc (suc zero)))) h = refl
weight_step Milliseconds (suc (suc (suc (suc (suc zero))))) h = refl
weight_step Milliseconds (suc (suc (suc (suc (suc (suc zero)))))) h = refl
weight_step Milliseconds (suc (suc (suc (suc (suc (suc (suc zero))))))) h = refl
weight_step Milliseconds (suc (suc (suc (suc (suc (suc (suc (suc zero)))))))) h = refl
weight_step Milliseconds (suc (suc (suc (suc (suc (suc (suc (suc (suc n))))))))) h = absurd (omega arith)
weight_step Microseconds zero h = refl
weight_step Microseconds (suc zero) h = refl
weight_step Microseconds (suc (suc zero)) h = refl
weight_step Microseconds (suc (suc (suc zero))) h = refl
weight_step Microseconds (suc (suc (suc (suc zero)))) h = refl
weight_step Microseconds (suc (suc (suc (suc (suc zero))))) h = refl
weight_step Microseconds (suc (suc (suc (suc (suc (suc zero)))))) h = refl
weight_step Microseconds (suc (suc (suc (suc (suc (suc (suc zero))))))) h = refl
weight_step Microseconds (suc (suc (suc (suc (suc (suc (suc (suc zero)))))))) h = refl
weight_step Microseconds (suc (suc (suc (suc (suc (suc (suc (suc (suc n))))))))) h = absurd (omega arith)

-- what one more digit adds to the units of those before it
pub units_step : (unit : Unit) (i number digit : ℕ) → i < 9 → digit < 10
    → number * units_in_second unit / 10 ^ i + digit * (units_in_second unit / 10 ^ (i + 1)) ≡ (number * 10 + digit) * units_in_second unit / 10 ^ (i + 1)
units_step Seconds zero number digit h k = omega arith
units_step Seconds (suc zero) number digit h k = omega arith
units_step Seconds (suc (suc zero)) number digit h k = omega arith
units_step Seconds (suc (suc (suc zero))) number digit h k = omega arith
units_step Seconds (suc (suc (suc (suc zero)))) number digit h k = omega arith
units_step Seconds (suc (suc (suc (suc (suc zero))))) number digit h k = omega arith
units_step Seconds (suc (suc (suc (suc (suc (suc zero)))))) number digit h k = omega arith
units_step Seconds (suc (suc (suc (suc (suc (suc (suc zero))))))) number digit h k = omega arith
units_step Seconds (suc (suc (suc (suc (suc (suc (suc (suc zero)))))))) number digit h k = omega arith
units_step Seconds (suc (suc (suc (suc (suc (suc (suc (suc (suc n))))))))) number digit h k = absurd (omega arith)
units_step Milliseconds zero number digit h k = omega arith
units_step Milliseconds (suc zero) number digit h k = omega arith
units_step Milliseconds (suc (suc zero)) number digit h k = omega arith
units_step Milliseconds (suc (suc (suc zero))) number digit h k = omega arith
units_step Milliseconds (suc (suc (suc (suc zero)))) number digit h k = omega arith
units_step Milliseconds (suc (suc (suc (suc (suc zero))))) number digit h k = omega arith
units_step Milliseconds (suc (suc (suc (suc (suc (suc zero)))))) number digit h k = omega arith
units_step Milliseconds (suc (suc (suc (suc (suc (suc (suc zero))))))) number digit h k = omega arith
units_step Milliseconds (suc (suc (suc (suc (suc (suc (suc (suc zero)))))))) number digit h k = omega arith
units_step Milliseconds (suc (suc (suc (suc (suc (suc (suc (suc (suc n))))))))) number digit h k = absurd (omega arith)
units_step Microseconds zero number digit h k = omega arith
units_step Microseconds (suc zero) number digit h k = omega arith
units_step Microseconds (suc (suc zero)) number digit h k = omega arith
units_step Microseconds (suc (suc (suc zero))) number digit h k = omega arith
units_step Microseconds (suc (suc (suc (suc zero)))) number digit h k = omega arith
units_step Microseconds (suc (suc (suc (suc (suc zero))))) number digit h k = omega arith
units_step Microseconds (suc (suc (suc (suc (suc (suc zero)))))) number digit h k = omega arith
units_step Microseconds (suc (suc (suc (suc (suc (suc (suc zero))))))) number digit h k = omega arith
units_step Microseconds (suc (suc (suc (suc (suc (suc (suc (suc zero)))))))) number digit h k = omega arith
units_step Microseconds (suc (suc (suc (suc (suc (suc (suc (suc (suc n))))))))) number digit h k = absurd (omega arith)

units_joined : (unit : Unit) (i number next digit byte : ℕ) → next ≡ number * 10 + digit → byte ≡ digit → i < 9 → digit < 10
    → number * units_in_second unit / 10 ^ i + byte * (units_in_second unit / 10 ^ i / 10) ≡ next * units_in_second unit / 10 ^ (i + 1)
units_joined unit i number next digit byte more same few small = rw (more, same, weight_step unit i few) (units_step unit i number digit few small)

-- the same, of the digits of a text
pub units_more : (unit : Unit) (digits : List ℕ) (i : ℕ) → i < 9 → i < length digits → is_ascii_digit (get_or digits i 0) ≡ true
    → digits_value 10 (take i digits) * units_in_second unit / 10 ^ i + (get_or digits i 0 - 48) * (units_in_second unit / 10 ^ i / 10)
    ≡ digits_value 10 (take (i + 1) digits) * units_in_second unit / 10 ^ (i + 1)
units_more unit digits i few within passes =
    let r = digit_in_range (get_or digits i 0) passes in
    let d = digit_value_digit (get_or digits i 0) r in
    let e : get_or digits i 0 - 48 ≡ digit_value (get_or digits i 0) = omega arith in
    let small : digit_value (get_or digits i 0) < 10 = omega arith in
    units_joined unit i (digits_value 10 (take i digits)) (digits_value 10 (take (i + 1) digits)) (digit_value (get_or digits i 0)) (get_or digits i 0 - 48)
    (digits_value_more 10 digits i within) e few small

-- with one more digit the units stay below a second
pub room_step : (u units weight digit : ℕ) → digit < 10 → units < u → units + weight ≤ u
    → (units + digit * (weight / 10) < u) × (units + digit * (weight / 10) + weight / 10 ≤ u)
room_step u units weight digit small less room =
    let le : digit ≤ 9 = omega arith in
    let most : (weight / 10) * digit ≤ (weight / 10) * 9 = mul-le-mul_left (weight / 10) le in
    omega arith

pub unit_fits : (unit : Unit) → units_in_second unit < 2 ^ 32
unit_fits Seconds = omega arith
unit_fits Milliseconds = omega arith
unit_fits Microseconds = omega arith

-- a look at one more digit
pub record Stepped (unit : Unit) (digits : List ℕ) (i units weight : ℕ) : Type 0 where
  pub value : units ≡ digits_value 10 (take i digits) * units_in_second unit / 10 ^ i
  pub weight_is : weight ≡ units_in_second unit / 10 ^ i
  pub less : units < units_in_second unit
  pub room : units + weight ≤ units_in_second unit

pub stepped : (unit : Unit) (digits : List ℕ) (i units weight digit : ℕ) → Stepped unit digits i units weight → i < 9 → i < length digits
    → is_ascii_digit (get_or digits i 0) ≡ true → digit ≡ get_or digits i 0 - 48 → Stepped unit digits (i + 1) (units + digit * (weight / 10)) (weight / 10)
stepped unit digits i units weight digit h few within passes is =
    let more = units_more unit digits i few within passes in
    let weighs = weight_step unit i few in
    let r = digit_in_range (get_or digits i 0) passes in
    let small : digit < 10 = omega arith in
    let room = room_step (units_in_second unit) units weight digit small h.less h.room in
    record {
      value = rw (is, h.weight_is, h.value) more;
      weight_is = rw h.weight_is weighs;
      less = room.0;
      room = room.1;
    }

pub started : (unit : Unit) (digits : List ℕ) (u : ℕ) → u ≡ units_in_second unit → Stepped unit digits 0 0 u
started Seconds digits u e = rw e (record { value = refl; weight_is = refl; less = omega arith; room = omega arith })
started Milliseconds digits u e = rw e (record { value = refl; weight_is = refl; less = omega arith; room = omega arith })
started Microseconds digits u e = rw e (record { value = refl; weight_is = refl; less = omega arith; room = omega arith })

-- the units of all digits
pub all_stepped : (unit : Unit) (digits : List ℕ) (i units weight : ℕ) → Stepped unit digits i units weight → i ≡ length digits
    → units ≡ digits_value 10 digits * units_in_second unit / 10 ^ length digits
all_stepped unit digits i units weight h e =
    let value = rw e at h.value in
    rw (take-length digits) at value

-- a time that a text says is far below 2^64
pub time_fits : (unit : Unit) (day second u units : ℕ) → u ≡ units_in_second unit → day < 2932897 → second < 86400 → units < units_in_second unit
    → (day * 86400 + second) * u + units < 2 ^ 64
time_fits Seconds day second u units e d s f = rw e (omega arith)
time_fits Milliseconds day second u units e d s f = rw e (omega arith)
time_fits Microseconds day second u units e d s f = rw e (omega arith)
