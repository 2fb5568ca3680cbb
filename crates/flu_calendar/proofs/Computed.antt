-- What is computed from a text is the time that it says.
use Rattle.std.proofs.Common.{◌≡◌, ◌⊎◌, inl, inr, ℕ, ◌+◌, ◌*◌, ◌/◌, ◌^◌, ◌<◌, ◌≤◌, Bool, true, false, Option, Some, None, List, [], ◌∷◌, ◌++◌, length}
use Rattle.std.proofs.Common.{get_or, drop, refl, sym, ap, ◌∙◌, arith}
use Rattle.std.specs.Prelude.{codes, ◌&&◌, ◌||◌, ◌==◌, nat_le, if◌then◌else◌}
use Rattle.std.specs.Char.{is_ascii_digit}
use Rattle.std.specs.List.{list_all}
use Rattle.std.specs.Str.Parse.{AllDigits, digits_value}
use Rattle.std.proofs.Math.Nat.{div-lt_iff_lt-mul, mul-lt-mul_of_pos_right}
use Rattle.std.proofs.lemmas.Bool.Decides.{nat_tests}
use Rattle.std.proofs.lemmas.Int.Digits.{digits_value-lt}
use Rattle.std.proofs.lemmas.List.{append-nil}
use Rattle.std.proofs.lemmas.Str.{digit_value_digit}
use Rattle.flu_lemmas.proofs.Digits.{digit_in_range}
use Rattle.flu_lemmas.proofs.Tests.{both, and_left, and_right, le_true, true_le, true_eq}
use Rattle.flu_calendar.specs.declared.unit.Unit.{Unit}
use Rattle.flu_calendar.specs.declared.unit.Unit.TheVariants.{Seconds, Milliseconds, Microseconds}
use Rattle.flu_calendar.specs.Agreement.{ComputedTimesAreSaid, ComputedTimesHaveAnEnd, EndsAreInRange}
use Rattle.flu_calendar.specs.Calendar.{IsDate, days_in_month}
use Rattle.flu_calendar.specs.Places.{HasTwo, HasDay, HasClock, SaysFraction}
use Rattle.flu_calendar.specs.Texts.{IsTimeText, IsFraction, IsZone, fraction_text, units_in_fraction}
use Rattle.flu_calendar.specs.TimeInText.{has_two, two_at, is_date, year_at_front, has_day, day_in, has_clock, clock_in}
use Rattle.flu_calendar.specs.TimeInText.{before_zone, is_fraction, units_behind, time_in_text}
use Rattle.flu_calendar.specs.Units.{units_in_second, times_end}
use Rattle.flu_calendar.proofs.Days.{day_of_end, day_below_end}
use Rattle.flu_calendar.proofs.Pieces.{Parts, parts_of, time_said}

-- ---- two digits
digit_true : (c : ℕ) → 48 ≤ c → c ≤ 57 → is_ascii_digit c ≡ true
digit_true c low high = grind (arith, nat_tests)

two_true : (text : List ℕ) (at n : ℕ) → HasTwo text at n → has_two text at ≡ true
two_true text at n h =
    let tens = h.tens in
    let ones = h.ones in
    let small = h.small in
    both _ _ (digit_true (get_or text at 0) (omega arith) (omega arith)) (digit_true (get_or text (at + 1) 0) (omega arith) (omega arith))

two_is : (text : List ℕ) (at n : ℕ) → HasTwo text at n → n ≡ two_at text at
two_is text at n h =
    let tens = h.tens in
    let ones = h.ones in
    let small = h.small in
    omega arith

true_two : (text : List ℕ) (at : ℕ) → has_two text at ≡ true → HasTwo text at (two_at text at)
true_two text at e =
    let tens = is_ascii_digit (get_or text at 0) in
    let ones = is_ascii_digit (get_or text (at + 1) 0) in
    let first = digit_in_range (get_or text at 0) (and_left tens ones e) in
    let second = digit_in_range (get_or text (at + 1) 0) (and_right tens ones e) in
    record { tens = omega arith; ones = omega arith; small = omega arith }

-- ---- the date
date_true : (year month day : ℕ) → IsDate year month day → is_date year month day ≡ true
date_true year month day h =
    both _ _ (both _ _ (both _ _ (both _ _ (both _ _ (le_true 1970 year h.a_year.0) (le_true year 9999 h.a_year.1)) (le_true 1 month h.a_month.0))
    (le_true month 12 h.a_month.1)) (le_true 1 day h.a_day.0)) (le_true day (days_in_month year month) h.a_day.1)

true_date : (year month day : ℕ) → is_date year month day ≡ true → IsDate year month day
true_date year month day e =
    let e5 = and_left _ (nat_le day (days_in_month year month)) e in
    let e4 = and_left _ (nat_le 1 day) e5 in
    let e3 = and_left _ (nat_le month 12) e4 in
    let e2 = and_left _ (nat_le 1 month) e3 in
    record {
      a_year = (true_le 1970 year (and_left _ _ e2), true_le year 9999 (and_right _ _ e2));
      a_month = (true_le 1 month (and_right _ _ e3), true_le month 12 (and_right _ _ e4));
      a_day = (true_le 1 day (and_right _ _ e5), true_le day (days_in_month year month) (and_right _ _ e));
    }

eq_true : (a b : ℕ) → a ≡ b → (a == b) ≡ true
eq_true a b e = grind (arith, nat_tests)

day_true : (text : List ℕ) (n : ℕ) → HasDay text n → has_day text ≡ true
day_true text n h =
    let century = two_is text 0 h.century h.has_century in
    let in_century = two_is text 2 h.year_in_century h.has_year in
    let month = two_is text 5 h.month h.has_month in
    let day = two_is text 8 h.day h.has_day in
    let year : h.year ≡ year_at_front text = let e = h.year_is in omega arith in
    both _ _ (both _ _ (both _ _ (both _ _ (both _ _ (both _ _ (two_true text 0 h.century h.has_century) (two_true text 2 h.year_in_century h.has_year))
    (eq_true _ 45 h.has_dash)) (two_true text 5 h.month h.has_month)) (eq_true _ 45 h.has_other_dash)) (two_true text 8 h.day h.has_day))
    (rw (year, month, day) at (date_true h.year h.month h.day h.a_date))

day_is : (text : List ℕ) (n : ℕ) → HasDay text n → n ≡ day_in text
day_is text n h =
    let century = two_is text 0 h.century h.has_century in
    let in_century = two_is text 2 h.year_in_century h.has_year in
    let month = two_is text 5 h.month h.has_month in
    let day = two_is text 8 h.day h.has_day in
    let year : h.year ≡ year_at_front text = let e = h.year_is in omega arith in
    rw (year, month, day) at h.day_is

true_day : (text : List ℕ) → has_day text ≡ true → HasDay text (day_in text)
true_day text e =
    let e6 = and_left _ (is_date (year_at_front text) (two_at text 5) (two_at text 8)) e in
    let e5 = and_left _ (has_two text 8) e6 in
    let e4 = and_left _ (get_or text 7 0 == 45) e5 in
    let e3 = and_left _ (has_two text 5) e4 in
    let e2 = and_left _ (get_or text 4 0 == 45) e3 in
    record {
      year = year_at_front text;
      century = two_at text 0;
      year_in_century = two_at text 2;
      month = two_at text 5;
      day = two_at text 8;
      has_century = true_two text 0 (and_left _ _ e2);
      has_year = true_two text 2 (and_right _ _ e2);
      has_dash = true_eq _ 45 (and_right _ _ e3);
      has_month = true_two text 5 (and_right _ _ e4);
      has_other_dash = true_eq _ 45 (and_right _ _ e5);
      has_day = true_two text 8 (and_right _ _ e6);
      year_is = refl;
      a_date = true_date (year_at_front text) (two_at text 5) (two_at text 8) (and_right _ _ e);
      day_is = refl;
    }

-- ---- the time of day
separator_true : (c : ℕ) → (c ≡ 84) ⊎ (c ≡ 32) → ((c == 84) || (c == 32)) ≡ true
separator_true c (inl e) = rw e refl
separator_true c (inr e) = rw e refl

true_separator : (c : ℕ) → ((c == 84) || (c == 32)) ≡ true → (c ≡ 84) ⊎ (c ≡ 32)
true_separator c e = grind (arith, nat_tests)

clock_true : (text : List ℕ) (n : ℕ) → HasClock text n → has_clock text ≡ true
clock_true text n h =
    let hour = two_is text 11 h.hour h.has_hour in
    let minute = two_is text 14 h.minute h.has_minute in
    let second = two_is text 17 h.second h.has_second in
    let a = h.a_time_of_day.an_hour in
    let b = h.a_time_of_day.a_minute in
    let c = h.a_time_of_day.a_second in
    both _ _ (both _ _ (both _ _ (both _ _ (both _ _ (both _ _ (both _ _ (both _ _ (separator_true _ h.has_separator)
    (two_true text 11 h.hour h.has_hour)) (eq_true _ 58 h.has_colon)) (two_true text 14 h.minute h.has_minute)) (eq_true _ 58 h.has_other_colon))
    (two_true text 17 h.second h.has_second)) (le_true (two_at text 11) 23 (omega arith))) (le_true (two_at text 14) 59 (omega arith)))
    (le_true (two_at text 17) 59 (omega arith))

clock_is : (text : List ℕ) (n : ℕ) → HasClock text n → n ≡ clock_in text
clock_is text n h =
    let hour = two_is text 11 h.hour h.has_hour in
    let minute = two_is text 14 h.minute h.has_minute in
    let second = two_is text 17 h.second h.has_second in
    rw (hour, minute, second) at h.seconds

true_clock : (text : List ℕ) → has_clock text ≡ true → HasClock text (clock_in text)
true_clock text e =
    let e8 = and_left _ (nat_le (two_at text 17) 59) e in
    let e7 = and_left _ (nat_le (two_at text 14) 59) e8 in
    let e6 = and_left _ (nat_le (two_at text 11) 23) e7 in
    let e5 = and_left _ (has_two text 17) e6 in
    let e4 = and_left _ (get_or text 16 0 == 58) e5 in
    let e3 = and_left _ (has_two text 14) e4 in
    let e2 = and_left _ (get_or text 13 0 == 58) e3 in
    let a : two_at text 11 ≤ 23 = true_le (two_at text 11) 23 (and_right _ (nat_le (two_at text 11) 23) e7) in
    let b : two_at text 14 ≤ 59 = true_le (two_at text 14) 59 (and_right _ (nat_le (two_at text 14) 59) e8) in
    let c : two_at text 17 ≤ 59 = true_le (two_at text 17) 59 (and_right _ (nat_le (two_at text 17) 59) e) in
    record {
      hour = two_at text 11;
      minute = two_at text 14;
      second = two_at text 17;
      has_separator = true_separator (get_or text 10 0) (and_left _ _ e2);
      has_hour = true_two text 11 (and_right _ _ e2);
      has_colon = true_eq _ 58 (and_right _ _ e3);
      has_minute = true_two text 14 (and_right _ _ e4);
      has_other_colon = true_eq _ 58 (and_right _ _ e5);
      has_second = true_two text 17 (and_right _ _ e6);
      a_time_of_day = record { an_hour = omega arith; a_minute = omega arith; a_second = omega arith };
      seconds = refl;
    }

-- ---- the fraction and the zone
zone_dropped : (bytes : List ℕ) → before_zone (bytes ++ codes "Z") ≡ bytes
unfolding before_zone
zone_dropped [] = refl
zone_dropped (b ∷ []) = refl
zone_dropped (b ∷ c ∷ bytes) = ap (λ rest. b ∷ rest) (zone_dropped (c ∷ bytes))

no_zone_byte : (b : ℕ) → is_ascii_digit b ≡ true → (b == 90) ≡ false
no_zone_byte b e = grind (arith, nat_tests)

digits_kept : (digits : List ℕ) → list_all is_ascii_digit digits ≡ true → before_zone digits ≡ digits
unfolding before_zone
digits_kept [] e = refl
digits_kept (b ∷ []) e = rw (no_zone_byte b (and_left _ _ e)) refl
digits_kept (b ∷ c ∷ bytes) e = ap (λ rest. b ∷ rest) (digits_kept (c ∷ bytes) (and_right (is_ascii_digit b) _ e))

fraction_kept : (digits : List ℕ) → IsFraction digits → before_zone (fraction_text digits) ≡ fraction_text digits
unfolding before_zone
fraction_kept [] h = refl
fraction_kept (d ∷ digits) h = ap (λ rest. 46 ∷ rest) (digits_kept (d ∷ digits) h.all_digits)

before_is : (digits zone : List ℕ) → IsFraction digits → IsZone zone → before_zone (fraction_text digits ++ zone) ≡ fraction_text digits
before_is digits zone h (inl e) = rw e (zone_dropped (fraction_text digits))
before_is digits zone h (inr e) = rw (e, append-nil (fraction_text digits)) (fraction_kept digits h)

-- what is before the zone, and the zone
pub record Zoned (text : List ℕ) : Type 0 where
  pub zone : List ℕ
  pub a_zone : IsZone zone
  pub pieces : text ≡ before_zone text ++ zone

one_zoned : (b : ℕ) (ends : Bool) → (b == 90) ≡ ends → Zoned (b ∷ [])
unfolding before_zone
one_zoned b true e = record { zone = codes "Z"; a_zone = inl refl; pieces = rw (e, true_eq b 90 e) refl }
one_zoned b false e = record { zone = []; a_zone = inr refl; pieces = rw e refl }

zoned : (text : List ℕ) → Zoned text
unfolding before_zone
zoned [] = record { zone = []; a_zone = inr refl; pieces = refl }
zoned (b ∷ []) = one_zoned b (b == 90) refl
zoned (b ∷ c ∷ bytes) =
    let rest = zoned (c ∷ bytes) in
    record { zone = rest.zone; a_zone = rest.a_zone; pieces = ap (λ bytes. b ∷ bytes) rest.pieces }

fraction_true : (digits : List ℕ) → IsFraction digits → is_fraction (fraction_text digits) ≡ true
fraction_true [] h = refl
fraction_true (d ∷ digits) h =
    both _ _ (both _ _ (le_true 1 (length (d ∷ digits)) (omega arith)) (le_true (length (d ∷ digits)) 9 h.at_most_nine)) h.all_digits

digits_behind_dot : (digits : List ℕ) → drop 1 (fraction_text digits) ≡ digits
digits_behind_dot [] = refl
digits_behind_dot (d ∷ digits) = refl

rest_true : (unit : Unit) (rest : List ℕ) (n : ℕ) → SaysFraction unit rest n → is_fraction (before_zone rest) ≡ true
rest_true unit rest n h =
    let before = before_is h.fraction h.zone h.a_fraction h.a_zone in
    rw (h.pieces, before) (fraction_true h.fraction h.a_fraction)

rest_is : (unit : Unit) (rest : List ℕ) (n : ℕ) → SaysFraction unit rest n → n ≡ units_behind unit rest
rest_is unit rest n h =
    let before = ap before_zone h.pieces ∙ before_is h.fraction h.zone h.a_fraction h.a_zone in
    let digits = ap (drop 1) before ∙ digits_behind_dot h.fraction in
    h.units ∙ ap (units_in_fraction unit) (sym digits)

from_body : (unit : Unit) (rest body zone : List ℕ) → rest ≡ body ++ zone → IsZone zone → is_fraction body ≡ true
    → SaysFraction unit rest (units_in_fraction unit (drop 1 body))
from_body unit rest [] zone pieces a_zone e =
    record { fraction = []; zone = zone; a_fraction = record { all_digits = refl; at_most_nine = omega arith }; a_zone = a_zone; pieces = pieces; units = refl }
from_body unit rest (dot ∷ []) zone pieces a_zone e =
    let e3 = and_left _ (list_all is_ascii_digit []) e in
    let e2 = and_left _ (nat_le 0 9) e3 in
    absurd (omega (arith, true_le 1 0 (and_right _ _ e2)))
from_body unit rest (dot ∷ d ∷ digits) zone pieces a_zone e =
    let e3 = and_left _ (list_all is_ascii_digit (d ∷ digits)) e in
    let e2 = and_left _ (nat_le (length (d ∷ digits)) 9) e3 in
    let is_dot = true_eq dot 46 (and_left _ _ e2) in
    record {
      fraction = d ∷ digits;
      zone = zone;
      a_fraction = record { all_digits = and_right _ _ e; at_most_nine = true_le (length (d ∷ digits)) 9 (and_right _ _ e3) };
      a_zone = a_zone;
      pieces = rw is_dot at pieces;
      units = refl;
    }

true_rest : (unit : Unit) (rest : List ℕ) → is_fraction (before_zone rest) ≡ true → SaysFraction unit rest (units_behind unit rest)
true_rest unit rest e =
    let parts = zoned rest in
    from_body unit rest (before_zone rest) parts.zone parts.pieces parts.a_zone e

-- ---- the whole text
computed : (unit : Unit) (text : List ℕ) (t : ℕ) → Parts unit text t → time_in_text unit text ≡ Some t
unfolding time_in_text
computed unit text t h =
    let long = le_true 19 (length text) h.long in
    let day = day_true text h.day_number h.has_day in
    let clock = clock_true text h.clock_seconds h.has_clock in
    let rest = rest_true unit (drop 19 text) h.fraction_units h.says_fraction in
    let tests = both _ _ (both _ _ (both _ _ long day) clock) rest in
    let sum : t ≡ (day_in text * 86400 + clock_in text) * units_in_second unit + units_behind unit (drop 19 text)
    = rw (
      day_is text h.day_number h.has_day,
      clock_is text h.clock_seconds h.has_clock,
      rest_is unit (drop 19 text) h.fraction_units h.says_fraction,
    ) at h.sum_is in
    rw (tests, sum) refl

from_tests : (unit : Unit) (text : List ℕ) (tests : Bool) (t u : ℕ) → (if tests then Some u else None) ≡ Some t → (tests ≡ true) × (u ≡ t)
from_tests unit text true t u e = (refl, cc)
from_tests unit text false t u e = cc

said : (unit : Unit) (text : List ℕ) (t : ℕ) → time_in_text unit text ≡ Some t → IsTimeText unit text t
unfolding time_in_text
said unit text t e =
    let found = from_tests unit text (nat_le 19 (length text) && has_day text && has_clock text && is_fraction (before_zone (drop 19 text))) t
    ((day_in text * 86400 + clock_in text) * units_in_second unit + units_behind unit (drop 19 text)) e in
    let e3 = and_left _ (is_fraction (before_zone (drop 19 text))) found.0 in
    let e2 = and_left _ (has_clock text) e3 in
    let long = true_le 19 (length text) (and_left _ _ e2) in
    rw found.1 at (time_said unit text (day_in text) (clock_in text) (units_behind unit (drop 19 text)) (true_day text (and_right _ _ e2))
    (true_clock text (and_right _ _ e3)) (true_rest unit (drop 19 text) (and_right _ _ found.0)) long)

pub computed_times_are_said : ComputedTimesAreSaid
computed_times_are_said unit text t = (said unit text t, λ says. computed unit text t (parts_of unit text t says))

-- what a reader finds is what is computed
pub value_found : (unit : Unit) (text : List ℕ) (t : ℕ) → IsTimeText unit text t → Some t ≡ time_in_text unit text
value_found unit text t says = sym (computed unit text t (parts_of unit text t says))

none_computed : (unit : Unit) (text : List ℕ) (o : Option ℕ) → time_in_text unit text ≡ o → ((t : ℕ) → ¬ (IsTimeText unit text t)) → None ≡ o
none_computed unit text None e h = refl
none_computed unit text (Some t) e h = absurd (h t (said unit text t e))

pub none_found : (unit : Unit) (text : List ℕ) → ((t : ℕ) → ¬ (IsTimeText unit text t)) → None ≡ time_in_text unit text
none_found unit text h = none_computed unit text (time_in_text unit text) refl h

-- ---- the end of the times
pub time_below : (unit : Unit) (day second u units : ℕ) → u ≡ units_in_second unit → day < 2932897 → second < 86400 → units < units_in_second unit
    → (day * 86400 + second) * u + units < times_end unit
time_below Seconds day second u units e d s f = let last = day_of_end in rw e (omega arith)
time_below Milliseconds day second u units e d s f = let last = day_of_end in rw e (omega arith)
time_below Microseconds day second u units e d s f = let last = day_of_end in rw e (omega arith)

all_digits : (digits : List ℕ) → list_all is_ascii_digit digits ≡ true → AllDigits 10 digits
all_digits [] e = tt
all_digits (d ∷ digits) e =
    let range = digit_in_range d (and_left _ _ e) in
    let value = digit_value_digit d range in
    (omega arith, all_digits digits (and_right (is_ascii_digit d) _ e))

some_units : (unit : Unit) → 0 < units_in_second unit
some_units Seconds = omega arith
some_units Milliseconds = omega arith
some_units Microseconds = omega arith

scaled : (value power u : ℕ) → 0 < u → value < power → value * u / power < u
scaled value power u some less =
    let power_some : 0 < power = omega arith in
    let more : value * u < power * u = mul-lt-mul_of_pos_right less some in
    let turned : value * u < u * power = omega arith in
    (div-lt_iff_lt-mul power_some).1 turned

fraction_below : (unit : Unit) (digits : List ℕ) → IsFraction digits → units_in_fraction unit digits < units_in_second unit
fraction_below unit digits h =
    scaled (digits_value 10 digits) (10 ^ length digits) (units_in_second unit) (some_units unit)
    (digits_value-lt 10 digits (all_digits digits h.all_digits))

day_below : (text : List ℕ) (n : ℕ) → HasDay text n → n < 2932897
day_below text n h = rw h.day_is (day_below_end h.year h.month h.day h.a_date)

clock_below : (text : List ℕ) (n : ℕ) → HasClock text n → n < 86400
clock_below text n h =
    let a = h.a_time_of_day.an_hour in
    let b = h.a_time_of_day.a_minute in
    let c = h.a_time_of_day.a_second in
    let sum = h.seconds in
    omega arith

rest_below : (unit : Unit) (rest : List ℕ) (n : ℕ) → SaysFraction unit rest n → n < units_in_second unit
rest_below unit rest n h = rw h.units (fraction_below unit h.fraction h.a_fraction)

pub computed_times_have_an_end : ComputedTimesHaveAnEnd
computed_times_have_an_end unit text t e =
    let parts = parts_of unit text t (said unit text t e) in
    rw parts.sum_is (time_below unit parts.day_number parts.clock_seconds (units_in_second unit) parts.fraction_units refl
    (day_below text parts.day_number parts.has_day) (clock_below text parts.clock_seconds parts.has_clock)
    (rest_below unit (drop 19 text) parts.fraction_units parts.says_fraction))

pub ends_are_in_range : EndsAreInRange
ends_are_in_range Seconds = rw day_of_end (omega arith, omega arith)
ends_are_in_range Milliseconds = rw day_of_end (omega arith, omega arith)
ends_are_in_range Microseconds = rw day_of_end (omega arith, omega arith)
