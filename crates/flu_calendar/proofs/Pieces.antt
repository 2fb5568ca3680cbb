-- The pieces of a text that says a time, and what stands at its places.
use Rattle.std.proofs.Common.{◌≡◌, ◌⊎◌, ℕ, ◌+◌, ◌*◌, ◌/◌, ◌%◌, ◌<◌, ◌≤◌, List, [], ◌∷◌, ◌++◌, length, get_or, drop, take, ◌-◌, inl, inr, refl, ap, ◌∙◌, arith}
use Rattle.std.specs.Prelude.{codes}
use Rattle.std.proofs.lemmas.List.{take_all, length-drop}
use Rattle.flu_calendar.specs.declared.unit.Unit.{Unit}
use Rattle.flu_calendar.specs.Calendar.{IsDate, IsTimeOfDay, day_of, days_in_month}
use Rattle.flu_calendar.specs.Units.{units_in_second}
use Rattle.flu_calendar.specs.Texts.{IsTimeText, IsSeparator, IsFraction, IsZone, date_text, clock_text, fraction_text, units_in_fraction}
use Rattle.flu_calendar.specs.Places.{HasTwo, HasDay, HasClock, SaysFraction}

-- the first nineteen bytes of a text, and the others
nineteen : (text : List ℕ) → 19 ≤ length text
    → text ≡ get_or text 0 0 ∷ get_or text 1 0 ∷ get_or text 2 0 ∷ get_or text 3 0 ∷ get_or text 4 0 ∷ get_or text 5 0 ∷ get_or text 6 0
    ∷ get_or text 7 0 ∷ get_or text 8 0 ∷ get_or text 9 0 ∷ get_or text 10 0 ∷ get_or text 11 0 ∷ get_or text 12 0 ∷ get_or text 13 0
    ∷ get_or text 14 0 ∷ get_or text 15 0 ∷ get_or text 16 0 ∷ get_or text 17 0 ∷ get_or text 18 0 ∷ drop 19 text
nineteen (a ∷ b ∷ c ∷ d ∷ e ∷ f ∷ g ∷ h ∷ i ∷ j ∷ k ∷ l ∷ m ∷ n ∷ o ∷ p ∷ q ∷ r ∷ s ∷ rest) long = refl
nineteen text long = absurd (omega arith)

-- the digits of a year of four digits
thousands : (c k : ℕ) → c < 100 → k < 100 → (c * 100 + k) / 10 / 10 / 10 % 10 ≡ c / 10
thousands c k hc hk = omega arith

hundreds : (c k : ℕ) → c < 100 → k < 100 → (c * 100 + k) / 10 / 10 % 10 ≡ c % 10
hundreds c k hc hk = omega arith

tens : (c k : ℕ) → c < 100 → k < 100 → (c * 100 + k) / 10 % 10 ≡ k / 10
tens c k hc hk = omega arith

ones : (c k : ℕ) → c < 100 → k < 100 → (c * 100 + k) % 10 ≡ k % 10
ones c k hc hk = omega arith

ten_of : (n : ℕ) → n < 100 → n / 10 % 10 ≡ n / 10
ten_of n h = omega arith

-- what stands at the places is put together
pub put_together : (text : List ℕ) (n s separator : ℕ) (day : HasDay text n) (clock : HasClock text s) → 19 ≤ length text → get_or text 10 0 ≡ separator
    → text ≡ date_text day.year day.month day.day ++ separator ∷ [] ++ clock_text clock.hour clock.minute clock.second ++ drop 19 text
put_together text n s separator day clock long at_ten =
    let ch = day.has_century.small in
    let kh = day.has_year.small in
    let e1 = ap (λ k. 48 + k) (thousands day.century day.year_in_century ch kh) in
    let e2 = ap (λ k. 48 + k) (hundreds day.century day.year_in_century ch kh) in
    let e3 = ap (λ k. 48 + k) (tens day.century day.year_in_century ch kh) in
    let e4 = ap (λ k. 48 + k) (ones day.century day.year_in_century ch kh) in
    let m = ap (λ k. 48 + k) (ten_of day.month day.has_month.small) in
    let d = ap (λ k. 48 + k) (ten_of day.day day.has_day.small) in
    let h = ap (λ k. 48 + k) (ten_of clock.hour clock.has_hour.small) in
    let mi = ap (λ k. 48 + k) (ten_of clock.minute clock.has_minute.small) in
    let se = ap (λ k. 48 + k) (ten_of clock.second clock.has_second.small) in
    let whole = nineteen text long in
    let year = day.year_is in
    rw year (cc)

-- the two digits of a number
two : (text : List ℕ) (at n : ℕ) → n < 100 → get_or text at 0 ≡ 48 + n / 10 % 10 → get_or text (at + 1) 0 ≡ 48 + n % 10 → HasTwo text at n
two text at n small first second = record { tens = omega arith; ones = second; small = small }

abbrev whole : ℕ → ℕ → ℕ → ℕ → ℕ → ℕ → ℕ → List ℕ → List ℕ
whole year month day separator hour minute second rest = date_text year month day ++ separator ∷ [] ++ clock_text hour minute second ++ rest

short_month : (year month : ℕ) → days_in_month year month ≤ 31
short_month year month = grind arith

day_apart : (year month day separator hour minute second : ℕ) (rest : List ℕ) → IsDate year month day
    → HasDay (whole year month day separator hour minute second rest) (day_of year month day)
day_apart year month day separator hour minute second rest h =
    let text = whole year month day separator hour minute second rest in
    let high = h.a_year.1 in
    let month_high = h.a_month.1 in
    let day_high = h.a_day.1 in
    let most = short_month year month in
    record {
      year = year;
      century = year / 100;
      year_in_century = year % 100;
      month = month;
      day = day;
      has_century = two text 0 (year / 100) (omega arith) (omega arith) (omega arith);
      has_year = two text 2 (year % 100) (omega arith) (omega arith) (omega arith);
      has_dash = refl;
      has_month = two text 5 month (omega arith) refl refl;
      has_other_dash = refl;
      has_day = two text 8 day (omega arith) refl refl;
      year_is = omega arith;
      a_date = h;
      day_is = refl;
    }

clock_apart : (year month day separator hour minute second : ℕ) (rest : List ℕ) → (separator ≡ 84) ⊎ (separator ≡ 32) → IsTimeOfDay hour minute second
    → HasClock (whole year month day separator hour minute second rest) (hour * 3600 + minute * 60 + second)
clock_apart year month day separator hour minute second rest apart h =
    let text = whole year month day separator hour minute second rest in
    let hour_high = h.an_hour in
    let minute_high = h.a_minute in
    let second_high = h.a_second in
    record {
      hour = hour;
      minute = minute;
      second = second;
      has_separator = apart;
      has_hour = two text 11 hour (omega arith) refl refl;
      has_colon = refl;
      has_minute = two text 14 minute (omega arith) refl refl;
      has_other_colon = refl;
      has_second = two text 17 second (omega arith) refl refl;
      a_time_of_day = h;
      seconds = refl;
    }

-- what a text that says a time has at its places
pub record Parts (unit : Unit) (text : List ℕ) (t : ℕ) : Type 0 where
  pub day_number : ℕ
  pub clock_seconds : ℕ
  pub fraction_units : ℕ
  pub long : 19 ≤ length text
  pub has_day : HasDay text day_number
  pub has_clock : HasClock text clock_seconds
  pub says_fraction : SaysFraction unit (drop 19 text) fraction_units
  pub sum_is : t ≡ (day_number * 86400 + clock_seconds) * units_in_second unit + fraction_units

whole_parts : (unit : Unit) (year month day separator hour minute second : ℕ) (fraction zone : List ℕ) → IsDate year month day
    → IsTimeOfDay hour minute second → (separator ≡ 84) ⊎ (separator ≡ 32) → IsFraction fraction → IsZone zone
    → Parts unit (whole year month day separator hour minute second (fraction_text fraction ++ zone))
    ((day_of year month day * 86400 + hour * 3600 + minute * 60 + second) * units_in_second unit + units_in_fraction unit fraction)
whole_parts unit year month day separator hour minute second fraction zone a_date a_clock a_separator a_fraction a_zone =
    let rest = fraction_text fraction ++ zone in
    let same : day_of year month day * 86400 + hour * 3600 + minute * 60 + second ≡ day_of year month day * 86400 + (hour * 3600 + minute * 60 + second) = omega arith in
    record {
      day_number = day_of year month day;
      clock_seconds = hour * 3600 + minute * 60 + second;
      fraction_units = units_in_fraction unit fraction;
      long = omega arith;
      has_day = day_apart year month day separator hour minute second rest a_date;
      has_clock = clock_apart year month day separator hour minute second rest a_separator a_clock;
      says_fraction = record { fraction = fraction; zone = zone; a_fraction = a_fraction; a_zone = a_zone; pieces = refl; units = refl };
      sum_is = ap (λ k. k * units_in_second unit + units_in_fraction unit fraction) same;
    }

separated : (unit : Unit) (year month day hour minute second : ℕ) (separator fraction zone text : List ℕ) → IsDate year month day
    → IsTimeOfDay hour minute second → IsSeparator separator → IsFraction fraction → IsZone zone
    → text ≡ date_text year month day ++ separator ++ clock_text hour minute second ++ fraction_text fraction ++ zone
    → Parts unit text ((day_of year month day * 86400 + hour * 3600 + minute * 60 + second) * units_in_second unit + units_in_fraction unit fraction)
separated unit year month day hour minute second separator fraction zone text a_date a_clock (inl e) a_fraction a_zone pieces =
    rw (pieces, e) (whole_parts unit year month day 84 hour minute second fraction zone a_date a_clock (inl refl) a_fraction a_zone)
separated unit year month day hour minute second separator fraction zone text a_date a_clock (inr e) a_fraction a_zone pieces =
    rw (pieces, e) (whole_parts unit year month day 32 hour minute second fraction zone a_date a_clock (inr refl) a_fraction a_zone)

pub parts_of : (unit : Unit) (text : List ℕ) (t : ℕ) → IsTimeText unit text t → Parts unit text t
parts_of unit text t h =
    let parts = separated unit h.year h.month h.day h.hour h.minute h.second h.separator h.fraction h.zone text h.a_date h.a_time_of_day
    h.a_separator h.a_fraction h.a_zone h.pieces in
    rw h.units parts

-- and a text that has these at its places says the time
said : (unit : Unit) (text : List ℕ) (n s f separator : ℕ) (symbol : List ℕ) (day : HasDay text n) (clock : HasClock text s) (end : SaysFraction unit (drop 19 text) f)
    → 19 ≤ length text → get_or text 10 0 ≡ separator → symbol ≡ separator ∷ [] → IsSeparator symbol
    → IsTimeText unit text ((n * 86400 + s) * units_in_second unit + f)
said unit text n s f separator symbol day clock end long at_ten symbol_is a_separator =
    let together = put_together text n s separator day clock long at_ten in
    let sum : n * 86400 + s ≡ day_of day.year day.month day.day * 86400 + clock.hour * 3600 + clock.minute * 60 + clock.second
    = let a = day.day_is in let b = clock.seconds in omega arith in
    record {
      year = day.year;
      month = day.month;
      day = day.day;
      hour = clock.hour;
      minute = clock.minute;
      second = clock.second;
      separator = symbol;
      fraction = end.fraction;
      zone = end.zone;
      a_date = day.a_date;
      a_time_of_day = clock.a_time_of_day;
      a_separator = a_separator;
      a_fraction = end.a_fraction;
      a_zone = end.a_zone;
      pieces = rw symbol_is (together ∙ ap (λ rest. date_text day.year day.month day.day ++ separator ∷ [] ++ clock_text clock.hour clock.minute clock.second ++ rest) end.pieces);
      units = rw (sum, end.units) refl;
    }

pub time_said : (unit : Unit) (text : List ℕ) (n s f : ℕ) → HasDay text n → HasClock text s → SaysFraction unit (drop 19 text) f → 19 ≤ length text
    → IsTimeText unit text ((n * 86400 + s) * units_in_second unit + f)
time_said unit text n s f day clock end long =
    elim clock.has_separator [
      | inl e ↦ said unit text n s f 84 (codes "T") day clock end long e refl (inl refl)
      | inr e ↦ said unit text n s f 32 (codes " ") day clock end long e refl (inr refl)
    ]

-- what is taken of the bytes behind the seconds are all of them
pub rest_is : (text : List ℕ) → take (length text - 19) (drop 19 text) ≡ drop 19 text
rest_is text = take_all (length text - 19) (drop 19 text) (omega (arith, length-drop 19 text))
