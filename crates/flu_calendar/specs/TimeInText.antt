-- The time that a text says, computed from what stands at the places of the text.
use Rattle.std.specs.Prelude.{ℕ, ◌+◌, ◌-◌, ◌*◌, Bool, true, ◌&&◌, ◌||◌, ◌==◌, nat_le, if◌then◌else◌, List, [], ◌∷◌, length, drop, slice_index}
use Rattle.std.specs.Prelude.{Option, Some, None}
use Rattle.std.specs.Char.{is_ascii_digit}
use Rattle.std.specs.List.{list_all}
use Rattle.flu_calendar.specs.declared.unit.Unit.{Unit}
use Rattle.flu_calendar.specs.Calendar.{day_of, days_in_month}
use Rattle.flu_calendar.specs.Texts.{units_in_fraction}
use Rattle.flu_calendar.specs.Units.{units_in_second}

-- two digits stand from a place on, and the number that they write
abbrev pub has_two : List ℕ → ℕ → Bool
has_two text at = is_ascii_digit (slice_index text at) && is_ascii_digit (slice_index text (at + 1))

abbrev pub two_at : List ℕ → ℕ → ℕ
two_at text at = (slice_index text at - 48) * 10 + (slice_index text (at + 1) - 48)

-- the year, the month and the day are a date of the years 1970 to 9999
abbrev pub is_date : ℕ → ℕ → ℕ → Bool
is_date year month day =
    nat_le 1970 year && nat_le year 9999 && nat_le 1 month && nat_le month 12 && nat_le 1 day && nat_le day (days_in_month year month)

-- a text begins with a date, and how many days after 1970-01-01 that is
abbrev pub year_at_front : List ℕ → ℕ
year_at_front text = two_at text 0 * 100 + two_at text 2

abbrev pub has_day : List ℕ → Bool
has_day text =
    has_two text 0 && has_two text 2 && (slice_index text 4 == 45) && has_two text 5 && (slice_index text 7 == 45) && has_two text 8
    && is_date (year_at_front text) (two_at text 5) (two_at text 8)

abbrev pub day_in : List ℕ → ℕ
day_in text = day_of (year_at_front text) (two_at text 5) (two_at text 8)

-- a text has a separator and then a time of day after a date, and how many seconds after midnight that is
abbrev pub has_clock : List ℕ → Bool
has_clock text =
    ((slice_index text 10 == 84) || (slice_index text 10 == 32)) && has_two text 11 && (slice_index text 13 == 58) && has_two text 14
    && (slice_index text 16 == 58) && has_two text 17 && nat_le (two_at text 11) 23 && nat_le (two_at text 14) 59 && nat_le (two_at text 17) 59

abbrev pub clock_in : List ℕ → ℕ
clock_in text = two_at text 11 * 3600 + two_at text 14 * 60 + two_at text 17

-- what is before the zone, if there is one
unfoldable pub before_zone : List ℕ → List ℕ
before_zone [] = []
before_zone (b ∷ []) = if b == 90 then [] else b ∷ []
before_zone (b ∷ c ∷ bytes) = b ∷ before_zone (c ∷ bytes)

-- nothing, or a dot and one to nine digits
abbrev pub is_fraction : List ℕ → Bool
is_fraction [] = true
is_fraction (dot ∷ digits) = (dot == 46) && nat_le 1 (length digits) && nat_le (length digits) 9 && list_all is_ascii_digit digits

-- the units of what follows the seconds
abbrev pub units_behind : Unit → List ℕ → ℕ
units_behind unit rest = units_in_fraction unit (drop 1 (before_zone rest))

-- THE TIME THAT A TEXT SAYS, if it says one
unfoldable pub time_in_text : Unit → List ℕ → Option ℕ
time_in_text unit text =
    if nat_le 19 (length text) && has_day text && has_clock text && is_fraction (before_zone (drop 19 text))
    then Some ((day_in text * 86400 + clock_in text) * units_in_second unit + units_behind unit (drop 19 text))
    else None
