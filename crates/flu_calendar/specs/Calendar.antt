-- THE CALENDAR: the Gregorian one, in which days are counted from 1970-01-01.
use Rattle.std.specs.Prelude.{ℕ, zero, suc, ◌+◌, ◌-◌, ◌%◌, ◌<◌, ◌≤◌, ◌≡◌, Bool, not, ◌&&◌, ◌||◌, ◌==◌, nat_le, if◌then◌else◌}
use Rattle.std.specs.Int.{IsInRange}

-- every fourth year is a leap year, but of the centuries only every fourth
abbrev pub is_leap : ℕ → Bool
is_leap year = (year % 4 == 0) && (not (year % 100 == 0) || (year % 400 == 0))

abbrev pub days_in_year : ℕ → ℕ
days_in_year year = if is_leap year then 366 else 365

-- what February lacks of thirty days
abbrev pub lacks : ℕ → ℕ
lacks year = if is_leap year then 1 else 2

-- thirty days have April, June, September and November
abbrev pub days_in_month : ℕ → ℕ → ℕ
days_in_month year month =
    if month == 2 then (if is_leap year then 29 else 28)
    else (if (month == 4) || (month == 6) || (month == 9) || (month == 11) then 30 else 31)

-- the days of the first n years from 1970 on
unfoldable pub days_of_years : ℕ → ℕ
days_of_years zero = 0
days_of_years (suc n) = days_of_years n + days_in_year (1970 + n)

-- the days of the first n months of a year
unfoldable pub days_of_months : ℕ → ℕ → ℕ
days_of_months year zero = 0
days_of_months year (suc n) = days_of_months year n + days_in_month year (suc n)

-- the year, the month and the day are a date of the years 1970 to 9999
pub record IsDate (year month day : ℕ) : Type 0 where
  pub a_year : IsInRange 1970 9999 year
  pub a_month : IsInRange 1 12 month
  pub a_day : IsInRange 1 (days_in_month year month) day

-- how many days a date is after 1970-01-01
abbrev pub day_of : ℕ → ℕ → ℕ → ℕ
day_of year month day = days_of_years (year - 1970) + days_of_months year (month - 1) + (day - 1)

-- the hour, the minute and the second are a time of day, of which no minute has a leap second
pub record IsTimeOfDay (hour minute second : ℕ) : Type 0 where
  pub an_hour : hour < 24
  pub a_minute : minute < 60
  pub a_second : second < 60

-- ---- the date of a day
-- how many of the first n years are over before a day
unfoldable pub years_over : ℕ → ℕ → ℕ
years_over zero day = 0
years_over (suc n) day = if nat_le (days_of_years (suc n)) day then suc n else years_over n day

-- how many of the first n months of a year are over before a day of that year
unfoldable pub months_over : ℕ → ℕ → ℕ → ℕ
months_over year zero day = 0
months_over year (suc n) day = if nat_le (days_of_months year (suc n)) day then suc n else months_over year n day

-- the year of a day
abbrev pub year_of : ℕ → ℕ
year_of n = 1970 + years_over 8029 n

-- how many days of its year are over before a day
abbrev pub day_in_year : ℕ → ℕ
day_in_year n = n - days_of_years (years_over 8029 n)

-- the month of a day
abbrev pub month_of : ℕ → ℕ
month_of n = 1 + months_over (year_of n) 11 (day_in_year n)

-- the day of its month that a day is
abbrev pub day_in_month : ℕ → ℕ
day_in_month n = 1 + (day_in_year n - days_of_months (year_of n) (month_of n - 1))

-- a day of a year, of which so many days are over before it, is that day of that month
pub record MonthFound (year over month day : ℕ) : Type 0 where
  pub low : 1 ≤ month
  pub high : month ≤ 12
  pub begun : days_of_months year (month - 1) ≤ over
  pub within : over < days_of_months year month
  pub day_is : day ≡ 1 + (over - days_of_months year (month - 1))
