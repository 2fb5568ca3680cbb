-- THE LAWS of dates and of times as text.
use Rattle.std.specs.Prelude.{◌≡◌, ◌↔◌, ℕ, ◌-◌, ◌^◌, ◌<◌, List, Some}
use Rattle.std.specs.Int.{IsInRange}
use Rattle.std.specs.Ordering.{nat_cmp}
use Rattle.std.specs.Cmp.Lexicographic.{slice_cmp}
use Rattle.flu_calendar.specs.declared.unit.Unit.{Unit}
use Rattle.flu_calendar.specs.Calendar.{IsDate, day_of, year_of, month_of, day_in_month}
use Rattle.flu_calendar.specs.Units.{times_end}
use Rattle.flu_calendar.specs.Texts.{IsTimeText, time_text}
use Rattle.flu_calendar.specs.TimeInText.{time_in_text}

-- a day has exactly one date, which is the one of its year, its month and its day of the month
pub record HasOneDate (n : ℕ) : Type 0 where
  pub a_date : IsDate (year_of n) (month_of n) (day_in_month n)
  pub of_the_day : day_of (year_of n) (month_of n) (day_in_month n) ≡ n
  pub alone : (year month day : ℕ) → IsDate year month day → day_of year month day ≡ n
      → (year ≡ year_of n) × (month ≡ month_of n) × (day ≡ day_in_month n)

-- LAW OF DAYS: each day before the year 10000 has exactly one date
abbrev pub DaysHaveOneDate : Type 0
DaysHaveOneDate = (n : ℕ) → n < day_of 10000 1 1 → HasOneDate n

-- LAW OF READING: a text says one time
abbrev pub TextsSayOneTime : Type 0
TextsSayOneTime = (unit : Unit) (text : List ℕ) (t s : ℕ) → IsTimeText unit text t → IsTimeText unit text s → t ≡ s

-- LAW OF COMPUTING: what is computed from a text is the time that it says, and nothing where it says none
abbrev pub ComputedTimesAreSaid : Type 0
ComputedTimesAreSaid = (unit : Unit) (text : List ℕ) (t : ℕ) → (time_in_text unit text ≡ Some t) ↔ IsTimeText unit text t

-- LAW OF THE LAST YEAR: a time that is computed from a text is before the year 10000
abbrev pub ComputedTimesHaveAnEnd : Type 0
ComputedTimesHaveAnEnd = (unit : Unit) (text : List ℕ) (t : ℕ) → time_in_text unit text ≡ Some t → t < times_end unit

-- LAW OF THE RANGE: the first time after the year 9999 is below 2^63 in each unit
abbrev pub EndsAreInRange : Type 0
EndsAreInRange = (unit : Unit) → IsInRange 1 (2 ^ 63 - 1) (times_end unit)

-- LAW OF PRINTING: what a time is printed as says that time
abbrev pub PrintedTextsSayTheirTimes : Type 0
PrintedTextsSayTheirTimes = (unit : Unit) (t : ℕ) → t < times_end unit → IsTimeText unit (time_text unit t) t

-- LAW OF ORDER: what times of one unit are printed as is in the order of the times, byte by byte
abbrev pub PrintedTextsAreInOrder : Type 0
PrintedTextsAreInOrder = (unit : Unit) (t s : ℕ) → t < times_end unit → s < times_end unit
    → slice_cmp nat_cmp (time_text unit t) (time_text unit s) ≡ nat_cmp t s
