-- The laws of dates and of times as text.
use Rattle.std.proofs.Common.{◌≡◌, inl, inr, ℕ, ◌+◌, ◌*◌, ◌/◌, ◌%◌, ◌<◌, List, [], ◌∷◌, ◌++◌, length, drop, subst, true, refl, sym, ap, ◌∙◌, arith}
use Rattle.std.specs.Prelude.{codes}
use Rattle.std.specs.Char.{is_ascii_digit, digit_value}
use Rattle.std.specs.List.{list_all}
use Rattle.std.proofs.lemmas.Bool.Decides.{nat_tests}
use Rattle.std.proofs.lemmas.List.{append_cancel_right, append-nil, length-append}
use Rattle.std.proofs.lemmas.List.Folds.{list_all-append}
use Rattle.flu_lemmas.proofs.Tests.{both, and_right}
use Rattle.flu_calendar.specs.declared.unit.Unit.{Unit}
use Rattle.flu_calendar.specs.declared.unit.Unit.TheVariants.{Seconds, Milliseconds, Microseconds}
use Rattle.flu_calendar.specs.Calendar.{IsDate, day_of, year_of, month_of, day_in_month}
use Rattle.flu_calendar.specs.Units.{units_in_second, times_end}
use Rattle.flu_calendar.specs.Texts.{IsTimeText, IsFraction, IsZone, time_text, second_text, last_digits, fraction_text, printed_fraction, units_in_fraction}
use Rattle.flu_calendar.specs.Places.{HasTwo, HasDay, HasClock, SaysFraction}
use Rattle.flu_calendar.specs.Agreement.{DaysHaveOneDate, TextsSayOneTime, PrintedTextsSayTheirTimes}
use Rattle.flu_calendar.proofs.Days.{day_of_end}
use Rattle.flu_calendar.proofs.DateOf.{date_of_day, day_of_date, year_of_date, month_of_date, year_of_is, month_of_is, day_in_month_is}
use Rattle.flu_calendar.proofs.Pieces.{parts_of}
use Rattle.flu_calendar.proofs.Printed.{second_below}

-- ---- days have one date
date_is : (year month day : ℕ) → IsDate year month day
    → (year ≡ year_of (day_of year month day)) × (month ≡ month_of (day_of year month day)) × (day ≡ day_in_month (day_of year month day))
date_is year month day h =
    let y = year_of_date year month day h in
    let m = month_of_date year month day h in
    (sym (year_of_is _ _ _ y), sym (month_of_is _ _ _ _ _ y m), sym (day_in_month_is _ _ _ _ _ y m))

pub days_have_one_date : DaysHaveOneDate
days_have_one_date n h =
    let below : n < 2932897 = let e = day_of_end in omega arith in
    record {
      a_date = date_of_day n below;
      of_the_day = day_of_date n below;
      alone = λ year month day a_date e. let P : ℕ → Type 0 = λ k. (year ≡ year_of k) × (month ≡ month_of k) × (day ≡ day_in_month k) in
          subst P e (date_is year month day a_date);
    }

-- ---- a text says one time
one_number : (text : List ℕ) (at m n : ℕ) → HasTwo text at m → HasTwo text at n → m ≡ n
one_number text at m n h k =
    let a = h.tens in
    let b = k.tens in
    let c = h.ones in
    let d = k.ones in
    omega arith

same_day : (year month day year₂ month₂ day₂ : ℕ) → year ≡ year₂ → month ≡ month₂ → day ≡ day₂ → day_of year month day ≡ day_of year₂ month₂ day₂
same_day year month day year₂ month₂ day₂ y m d = rw (y, m, d) refl

same_sum : (a b c a₂ b₂ c₂ u : ℕ) → a ≡ a₂ → b ≡ b₂ → c ≡ c₂ → (a * 86400 + b) * u + c ≡ (a₂ * 86400 + b₂) * u + c₂
same_sum a b c a₂ b₂ c₂ u p q r = rw (p, q, r) refl

one_day : (text : List ℕ) (m n : ℕ) → HasDay text m → HasDay text n → m ≡ n
one_day text m n h k =
    let century = one_number text 0 h.century k.century h.has_century k.has_century in
    let in_century = one_number text 2 h.year_in_century k.year_in_century h.has_year k.has_year in
    let month = one_number text 5 h.month k.month h.has_month k.has_month in
    let day = one_number text 8 h.day k.day h.has_day k.has_day in
    let a = h.year_is in
    let b = k.year_is in
    let year : h.year ≡ k.year = omega arith in
    h.day_is ∙ same_day h.year h.month h.day k.year k.month k.day year month day ∙ sym k.day_is

one_clock : (text : List ℕ) (m n : ℕ) → HasClock text m → HasClock text n → m ≡ n
one_clock text m n h k =
    let hour = one_number text 11 h.hour k.hour h.has_hour k.has_hour in
    let minute = one_number text 14 h.minute k.minute h.has_minute k.has_minute in
    let second = one_number text 17 h.second k.second h.has_second k.has_second in
    let a = h.seconds in
    let b = k.seconds in
    omega arith

-- the text of a fraction does not end with a zone
no_zone : (xs ys : List ℕ) → IsFraction ys → fraction_text xs ++ codes "Z" ≡ fraction_text ys → ⊥
no_zone xs [] h e = absurd (omega (arith, ap length e, length-append (fraction_text xs) (codes "Z")))
no_zone [] (y ∷ ys) h e = cc
no_zone (x ∷ xs) (y ∷ ys) h e =
    let same : (x ∷ xs) ++ codes "Z" ≡ y ∷ ys = cc in
    let all : list_all is_ascii_digit ((x ∷ xs) ++ codes "Z") ≡ true = ap (list_all is_ascii_digit) same ∙ h.all_digits in
    let apart = sym (list_all-append is_ascii_digit (x ∷ xs) (codes "Z")) ∙ all in
    let last : list_all is_ascii_digit (codes "Z") ≡ true = and_right (list_all is_ascii_digit (x ∷ xs)) (list_all is_ascii_digit (codes "Z")) apart in
    cc

one_text : (xs ys : List ℕ) → fraction_text xs ≡ fraction_text ys → xs ≡ ys
one_text [] [] e = refl
one_text [] (y ∷ ys) e = cc
one_text (x ∷ xs) [] e = cc
one_text (x ∷ xs) (y ∷ ys) e = cc

one_fraction : (xs ys zone other : List ℕ) → IsFraction xs → IsFraction ys → IsZone zone → IsZone other
    → fraction_text xs ++ zone ≡ fraction_text ys ++ other → xs ≡ ys
one_fraction xs ys zone other h k (inl a) (inl b) e =
    one_text xs ys (append_cancel_right (fraction_text xs) (fraction_text ys) (codes "Z") (rw (a, b) at e))
one_fraction xs ys zone other h k (inl a) (inr b) e = absurd (no_zone xs ys k (rw (a, b, append-nil) at e))
one_fraction xs ys zone other h k (inr a) (inl b) e = absurd (no_zone ys xs h (sym (rw (a, b, append-nil) at e)))
one_fraction xs ys zone other h k (inr a) (inr b) e = one_text xs ys (rw (append-nil (fraction_text xs), append-nil (fraction_text ys)) at (rw (a, b) at e))

one_units : (unit : Unit) (text : List ℕ) (m n : ℕ) → SaysFraction unit text m → SaysFraction unit text n → m ≡ n
one_units unit text m n h k =
    let same = one_fraction h.fraction k.fraction h.zone k.zone h.a_fraction k.a_fraction h.a_zone k.a_zone (sym h.pieces ∙ k.pieces) in
    h.units ∙ ap (units_in_fraction unit) same ∙ sym k.units

pub texts_say_one_time : TextsSayOneTime
texts_say_one_time unit text t s h k =
    let a = parts_of unit text t h in
    let b = parts_of unit text s k in
    let day = one_day text a.day_number b.day_number a.has_day b.has_day in
    let clock = one_clock text a.clock_seconds b.clock_seconds a.has_clock b.has_clock in
    let units = one_units unit (drop 19 text) a.fraction_units b.fraction_units a.says_fraction b.says_fraction in
    a.sum_is ∙ same_sum a.day_number a.clock_seconds a.fraction_units b.day_number b.clock_seconds b.fraction_units (units_in_second unit) day clock units ∙ sym b.sum_is

-- ---- what is printed says its time
digit_true : (n : ℕ) → is_ascii_digit (48 + n % 10) ≡ true
digit_true n = grind (arith, nat_tests)

digit_value_is : (n : ℕ) → digit_value (48 + n % 10) ≡ n % 10
digit_value_is n = grind (arith, nat_tests)

three_digits : (n : ℕ) → IsFraction (last_digits 3 n)
three_digits n = record {
  all_digits = both _ _ (digit_true (n / 10 / 10)) (both _ _ (digit_true (n / 10)) (both _ _ (digit_true n) refl));
  at_most_nine = omega arith;
}

six_digits : (n : ℕ) → IsFraction (last_digits 6 n)
six_digits n = record {
  all_digits = both _ _ (digit_true (n / 10 / 10 / 10 / 10 / 10)) (both _ _ (digit_true (n / 10 / 10 / 10 / 10)) (both _ _ (digit_true (n / 10 / 10 / 10))
      (both _ _ (digit_true (n / 10 / 10)) (both _ _ (digit_true (n / 10)) (both _ _ (digit_true n) refl)))));
  at_most_nine = omega arith;
}

three_value : (n : ℕ) → n < 1000 → units_in_fraction Milliseconds (last_digits 3 n) ≡ n
three_value n h =
    let a = digit_value_is (n / 10 / 10) in
    let b = digit_value_is (n / 10) in
    let c = digit_value_is n in
    omega arith

six_value : (n : ℕ) → n < 1000000 → units_in_fraction Microseconds (last_digits 6 n) ≡ n
six_value n h =
    let a = digit_value_is (n / 10 / 10 / 10 / 10 / 10) in
    let b = digit_value_is (n / 10 / 10 / 10 / 10) in
    let c = digit_value_is (n / 10 / 10 / 10) in
    let d = digit_value_is (n / 10 / 10) in
    let e = digit_value_is (n / 10) in
    let f = digit_value_is n in
    omega arith

clock_is : (n day : ℕ) → day ≡ n / 86400 → n ≡ day * 86400 + n / 3600 % 24 * 3600 + n / 60 % 60 * 60 + n % 60
clock_is n day e = omega arith

summed : (t n a u f g : ℕ) → t ≡ n * u + g → n ≡ a → f ≡ g → t ≡ a * u + f
summed t n a u f g whole same part = rw (← same, part) whole

printed_says : (unit : Unit) (t : ℕ) (digits : List ℕ) → t < times_end unit → IsFraction digits
    → printed_fraction unit (t % units_in_second unit) ≡ fraction_text digits → units_in_fraction unit digits ≡ t % units_in_second unit
    → t ≡ t / units_in_second unit * units_in_second unit + t % units_in_second unit → IsTimeText unit (time_text unit t) t
printed_says unit t digits below a_fraction written units whole =
    let n = t / units_in_second unit in
    let day = n / 86400 in
    let early : n < 253402300800 = second_below unit t below in
    let day_below : day < 2932897 = omega arith in
    record {
      year = year_of day;
      month = month_of day;
      day = day_in_month day;
      hour = n / 3600 % 24;
      minute = n / 60 % 60;
      second = n % 60;
      separator = codes "T";
      fraction = digits;
      zone = codes "Z";
      a_date = date_of_day day day_below;
      a_time_of_day = record { an_hour = omega arith; a_minute = omega arith; a_second = omega arith };
      a_separator = inl refl;
      a_fraction = a_fraction;
      a_zone = inl refl;
      pieces = ap (λ part. second_text n ++ part ++ codes "Z") written;
      units = summed t n _ (units_in_second unit) (units_in_fraction unit digits) (t % units_in_second unit) whole
          (clock_is n (day_of (year_of day) (month_of day) (day_in_month day)) (day_of_date day day_below)) units;
    }

pub printed_texts_say_their_times : PrintedTextsSayTheirTimes
printed_texts_say_their_times Seconds t h =
    printed_says Seconds t [] h (record { all_digits = refl; at_most_nine = omega arith }) refl (omega arith) (omega arith)
printed_texts_say_their_times Milliseconds t h =
    printed_says Milliseconds t (last_digits 3 (t % 1000)) h (three_digits (t % 1000)) refl (three_value (t % 1000) (omega arith)) (omega arith)
printed_texts_say_their_times Microseconds t h =
    printed_says Microseconds t (last_digits 6 (t % 1000000)) h (six_digits (t % 1000000)) refl (six_value (t % 1000000) (omega arith)) (omega arith)
