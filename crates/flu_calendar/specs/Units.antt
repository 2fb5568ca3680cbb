-- THE UNITS in which times are counted from 1970-01-01T00:00:00.
use Rattle.std.specs.Prelude.{ℕ, ◌*◌}
use Rattle.flu_calendar.specs.declared.unit.Unit.{Unit}
use Rattle.flu_calendar.specs.declared.unit.Unit.TheVariants.{Seconds, Milliseconds, Microseconds}
use Rattle.flu_calendar.specs.Calendar.{day_of}

abbrev pub units_in_second : Unit → ℕ
units_in_second Seconds = 1
units_in_second Milliseconds = 1000
units_in_second Microseconds = 1000000

-- the first moment after the year 9999
abbrev pub times_end : Unit → ℕ
times_end unit = day_of 10000 1 1 * 86400 * units_in_second unit
