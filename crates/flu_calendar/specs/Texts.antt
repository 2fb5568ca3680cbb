-- TIMES AS TEXT: which texts say which time, and the text that a time is printed as.
use Rattle.std.specs.Prelude.{◌≡◌, ◌⊎◌, ℕ, zero, suc, ◌+◌, ◌*◌, ◌/◌, ◌%◌, ◌^◌, ◌≤◌, true, List, [], ◌∷◌, ◌++◌, length, codes}
use Rattle.std.specs.Char.{is_ascii_digit}
use Rattle.std.specs.List.{list_all}
use Rattle.std.specs.Str.Parse.{digits_value}
use Rattle.flu_calendar.specs.declared.unit.Unit.{Unit}
use Rattle.flu_calendar.specs.declared.unit.Unit.TheVariants.{Seconds, Milliseconds, Microseconds}
use Rattle.flu_calendar.specs.Calendar.{IsDate, IsTimeOfDay, day_of, year_of, month_of, day_in_month}
use Rattle.flu_calendar.specs.Units.{units_in_second}

-- the last digits of a number, so many of them
abbrev pub last_digits : ℕ → ℕ → List ℕ
last_digits zero n = []
last_digits (suc count) n = last_digits count (n / 10) ++ (48 + n % 10) ∷ []

-- YYYY-MM-DD
abbrev pub date_text : ℕ → ℕ → ℕ → List ℕ
date_text year month day = last_digits 4 year ++ codes "-" ++ last_digits 2 month ++ codes "-" ++ last_digits 2 day

-- HH:MM:SS
abbrev pub clock_text : ℕ → ℕ → ℕ → List ℕ
clock_text hour minute second = last_digits 2 hour ++ codes ":" ++ last_digits 2 minute ++ codes ":" ++ last_digits 2 second

-- a dot and the digits of a fraction of a second, and nothing if there is none
abbrev pub fraction_text : List ℕ → List ℕ
fraction_text [] = []
fraction_text (digit ∷ digits) = codes "." ++ digit ∷ digits

-- how many whole units a fraction of a second has: what is less than a unit is cut off
abbrev pub units_in_fraction : Unit → List ℕ → ℕ
units_in_fraction unit digits = digits_value 10 digits * units_in_second unit / 10 ^ length digits

-- how many seconds after 1970-01-01T00:00:00 a date and a time of day are
abbrev pub seconds_of : ℕ → ℕ → ℕ → ℕ → ℕ → ℕ → ℕ
seconds_of year month day hour minute second = day_of year month day * 86400 + hour * 3600 + minute * 60 + second

abbrev pub IsSeparator : List ℕ → Type 0
IsSeparator separator = (separator ≡ codes "T") ⊎ (separator ≡ codes " ")

-- the digits of a fraction, or none if there is no fraction
pub record IsFraction (digits : List ℕ) : Type 0 where
  pub all_digits : list_all is_ascii_digit digits ≡ true
  pub at_most_nine : length digits ≤ 9

abbrev pub IsZone : List ℕ → Type 0
IsZone zone = (zone ≡ codes "Z") ⊎ (zone ≡ [])

-- a text says a time: the text is a date, a separator, a time of day, a fraction and a zone, and the time is the units that they add up to
pub record IsTimeText (unit : Unit) (text : List ℕ) (t : ℕ) : Type 0 where
  pub year : ℕ
  pub month : ℕ
  pub day : ℕ
  pub hour : ℕ
  pub minute : ℕ
  pub second : ℕ
  pub separator : List ℕ
  pub fraction : List ℕ
  pub zone : List ℕ
  pub a_date : IsDate year month day
  pub a_time_of_day : IsTimeOfDay hour minute second
  pub a_separator : IsSeparator separator
  pub a_fraction : IsFraction fraction
  pub a_zone : IsZone zone
  pub pieces : text ≡ date_text year month day ++ separator ++ clock_text hour minute second ++ fraction_text fraction ++ zone
  pub units : t ≡ seconds_of year month day hour minute second * units_in_second unit + units_in_fraction unit fraction

-- ---- the printed text
-- the date and the time of day of a second
abbrev pub second_text : ℕ → List ℕ
second_text n =
    let day = n / 86400 in
    date_text (year_of day) (month_of day) (day_in_month day) ++ codes "T" ++ clock_text (n / 3600 % 24) (n / 60 % 60) (n % 60)

-- the fraction of a second that so many units are, with all digits of the unit
abbrev pub printed_fraction : Unit → ℕ → List ℕ
printed_fraction Seconds n = []
printed_fraction Milliseconds n = codes "." ++ last_digits 3 n
printed_fraction Microseconds n = codes "." ++ last_digits 6 n

-- the text that a time is printed as
abbrev pub time_text : Unit → ℕ → List ℕ
time_text unit t = second_text (t / units_in_second unit) ++ printed_fraction unit (t % units_in_second unit) ++ codes "Z"
