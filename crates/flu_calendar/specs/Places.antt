-- What stands at the places of a text, from 0, with no text put together.
use Rattle.std.specs.Prelude.{◌≡◌, ◌⊎◌, ℕ, ◌+◌, ◌*◌, ◌/◌, ◌%◌, ◌<◌, List, slice_index, ◌++◌, ◌≢◌, codes}
use Rattle.flu_calendar.specs.declared.unit.Unit.{Unit}
use Rattle.flu_calendar.specs.Calendar.{IsDate, IsTimeOfDay, day_of}
use Rattle.flu_calendar.specs.Texts.{IsFraction, IsZone, fraction_text, units_in_fraction}

-- the two digits of a number stand from a place on
pub record HasTwo (text : List ℕ) (at n : ℕ) : Type 0 where
  pub tens : slice_index text at ≡ 48 + n / 10
  pub ones : slice_index text (at + 1) ≡ 48 + n % 10
  pub small : n < 100

-- a text begins with a date, whose day is so many days after 1970-01-01
pub record HasDay (text : List ℕ) (n : ℕ) : Type 0 where
  pub year : ℕ
  pub century : ℕ
  pub year_in_century : ℕ
  pub month : ℕ
  pub day : ℕ
  pub has_century : HasTwo text 0 century
  pub has_year : HasTwo text 2 year_in_century
  pub has_dash : slice_index text 4 ≡ 45
  pub has_month : HasTwo text 5 month
  pub has_other_dash : slice_index text 7 ≡ 45
  pub has_day : HasTwo text 8 day
  pub year_is : year ≡ century * 100 + year_in_century
  pub a_date : IsDate year month day
  pub day_is : n ≡ day_of year month day

-- a text has a separator and then a time of day after a date, which is so many seconds after midnight
pub record HasClock (text : List ℕ) (n : ℕ) : Type 0 where
  pub hour : ℕ
  pub minute : ℕ
  pub second : ℕ
  pub has_separator : (slice_index text 10 ≡ 84) ⊎ (slice_index text 10 ≡ 32)
  pub has_hour : HasTwo text 11 hour
  pub has_colon : slice_index text 13 ≡ 58
  pub has_minute : HasTwo text 14 minute
  pub has_other_colon : slice_index text 16 ≡ 58
  pub has_second : HasTwo text 17 second
  pub a_time_of_day : IsTimeOfDay hour minute second
  pub seconds : n ≡ hour * 3600 + minute * 60 + second

-- a text is another one before a zone, or has no zone at its end
abbrev pub IsWithoutZone : List ℕ → List ℕ → Type 0
IsWithoutZone text body = (text ≡ body ++ codes "Z") ⊎ ((text ≡ body) × ((other : List ℕ) → text ≢ other ++ codes "Z"))

-- what follows the seconds of a text says so many units
pub record SaysFraction (unit : Unit) (text : List ℕ) (n : ℕ) : Type 0 where
  pub fraction : List ℕ
  pub zone : List ℕ
  pub a_fraction : IsFraction fraction
  pub a_zone : IsZone zone
  pub pieces : text ≡ fraction_text fraction ++ zone
  pub units : n ≡ units_in_fraction unit fraction
