-- Printed pieces are ASCII, and printed times are far below the end.
use Rattle.std.proofs.Common.{ℕ, zero, suc, ◌+◌, ◌/◌, ◌%◌, ◌<◌, List, [], ◌∷◌, ◌++◌, arith}
use Rattle.std.specs.Prelude.{codes}
use Rattle.std.specs.Str.{IsAscii, IsUtf8}
use Rattle.std.proofs.lemmas.Str.{IsAscii-append, IsUtf8-from_ascii}
use Rattle.std.proofs.lemmas.Str.Ascii.{IsAscii-nil, IsAscii-cons, IsAscii-push}
use Rattle.flu_calendar.specs.declared.unit.Unit.{Unit}
use Rattle.flu_calendar.specs.declared.unit.Unit.TheVariants.{Seconds, Milliseconds, Microseconds}
use Rattle.flu_calendar.specs.Units.{units_in_second, times_end}
use Rattle.flu_calendar.specs.Texts.{date_text, clock_text, last_digits}
use Rattle.flu_calendar.proofs.Days.{day_of_end}

last_digits_ascii : (count n : ℕ) → IsAscii (last_digits count n)
last_digits_ascii zero n = IsAscii-nil
last_digits_ascii (suc count) n = IsAscii-push (last_digits count (n / 10)) (48 + n % 10) (last_digits_ascii count (n / 10)) (omega arith)

one : (b : ℕ) → b < 128 → IsAscii (b ∷ [])
one b small = IsAscii-cons b [] small IsAscii-nil

pub date_ascii : (year month day : ℕ) → IsAscii (date_text year month day ++ codes "T")
date_ascii year month day =
    IsAscii-append (date_text year month day) (codes "T")
    (IsAscii-append (last_digits 4 year ++ codes "-" ++ last_digits 2 month ++ codes "-") (last_digits 2 day)
    (IsAscii-append (last_digits 4 year ++ codes "-" ++ last_digits 2 month) (codes "-")
    (IsAscii-append (last_digits 4 year ++ codes "-") (last_digits 2 month)
    (IsAscii-append (last_digits 4 year) (codes "-") (last_digits_ascii 4 year) (one 45 (omega arith)))
    (last_digits_ascii 2 month))
    (one 45 (omega arith)))
    (last_digits_ascii 2 day))
    (one 84 (omega arith))

pub clock_ascii : (hour minute second : ℕ) → IsAscii (clock_text hour minute second)
clock_ascii hour minute second =
    IsAscii-append (last_digits 2 hour ++ codes ":" ++ last_digits 2 minute ++ codes ":") (last_digits 2 second)
    (IsAscii-append (last_digits 2 hour ++ codes ":" ++ last_digits 2 minute) (codes ":")
    (IsAscii-append (last_digits 2 hour ++ codes ":") (last_digits 2 minute)
    (IsAscii-append (last_digits 2 hour) (codes ":") (last_digits_ascii 2 hour) (one 58 (omega arith)))
    (last_digits_ascii 2 minute))
    (one 58 (omega arith)))
    (last_digits_ascii 2 second)

pub fraction_ascii : (count n : ℕ) → IsAscii (codes "." ++ last_digits count n ++ codes "Z")
fraction_ascii count n =
    IsAscii-append (codes "." ++ last_digits count n) (codes "Z")
    (IsAscii-append (codes ".") (last_digits count n) (one 46 (omega arith)) (last_digits_ascii count n)) (one 90 (omega arith))

pub zone_ascii : IsAscii (codes "Z")
zone_ascii = one 90 (omega arith)

-- a time below the end is of a second below the end
pub second_below : (unit : Unit) (t : ℕ) → t < times_end unit → t / units_in_second unit < 253402300800
second_below Seconds t h = let e = day_of_end in omega arith
second_below Milliseconds t h = let e = day_of_end in omega arith
second_below Microseconds t h = let e = day_of_end in omega arith

pub text_of_ascii : (bytes : List ℕ) → IsAscii bytes → IsUtf8 bytes
text_of_ascii bytes h = IsUtf8-from_ascii bytes h
