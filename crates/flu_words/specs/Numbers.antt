-- The numbers that words may be.
use Rattle.std.specs.Prelude.{ℕ, List, length, not, ◌==◌, ◌&&◌, ◌-◌, ◌^◌, nat_le, if◌then◌else◌, Option, Some, None}
use Rattle.std.specs.Char.{is_ascii_digit}
use Rattle.std.specs.List.{list_all}
use Rattle.std.specs.Str.Parse.{digits_value}

-- the number that one to ten digits write, if it is at most a limit
unfoldable pub number_of : ℕ → List ℕ → Option ℕ
number_of limit digits =
    if not (length digits == 0) && nat_le (length digits) 10 && list_all is_ascii_digit digits && nat_le (digits_value 10 digits) limit
    then Some (digits_value 10 digits) else None

-- the depth that a plan may have: 0 to 6
abbrev pub depth_of : List ℕ → Option ℕ
depth_of digits = number_of 6 digits

-- a number other than 0
abbrev pub not_zero : Option ℕ → Option ℕ
not_zero None = None
not_zero (Some n) = if n == 0 then None else Some n

-- how many rows of each source may make a round: 1 to 4096
abbrev pub rows_of : List ℕ → Option ℕ
rows_of digits = not_zero (number_of 4096 digits)

-- a seed: 0 to 2147483647
abbrev pub seed_of : List ℕ → Option ℕ
seed_of digits = number_of (2 ^ 31 - 1) digits

-- how many events a demo draws: 0 to 1000000
abbrev pub draws_of : List ℕ → Option ℕ
draws_of digits = number_of 1000000 digits
