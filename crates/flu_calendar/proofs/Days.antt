-- The sums of the calendar in closed form, and their order.
use Rattle.std.proofs.Common.{◌≡◌, ℕ, zero, suc, ◌+◌, ◌-◌, ◌*◌, ◌/◌, ◌<◌, ◌≤◌, nat_lt, cond, refl, arith}
use Rattle.std.proofs.lemmas.Bool.Decides.{nat_tests}
use Rattle.flu_calendar.specs.Calendar.{lacks, days_in_year, days_in_month, days_of_years, days_of_months, day_of, IsDate}

-- the days from 1601 to the start of the year 1601 + n
abbrev pub days_since_1601 : ℕ → ℕ
days_since_1601 n = n * 365 + n / 4 - n / 100 + n / 400

days_since_1601-suc : (n : ℕ) → days_since_1601 (suc n) ≡ days_since_1601 n + days_in_year (1601 + n)
days_since_1601-suc n = grind (arith, nat_tests)

pub days_of_years_closed : (n : ℕ) → days_of_years n + 134774 ≡ days_since_1601 (n + 369)
unfolding days_of_years
days_of_years_closed zero = refl
days_of_years_closed (suc n) =
    let before = days_of_years_closed n in
    let step = days_since_1601-suc (n + 369) in
    let year : 1601 + (n + 369) ≡ 1970 + n = omega arith in
    let next : suc n + 369 ≡ suc (n + 369) = omega arith in
    rw (next, step, year, ← before) (omega arith)

-- the days before a month lie on a line, but for what February lacks
pub days_of_months_closed : (year n : ℕ) → n < 12 → days_of_months year n + cond (nat_lt 1 n) (lacks year) 0 ≡ (367 * (n + 1) - 362) / 12
unfolding days_of_months
days_of_months_closed year zero h = grind arith
days_of_months_closed year (suc zero) h = grind arith
days_of_months_closed year (suc (suc zero)) h = grind arith
days_of_months_closed year (suc (suc (suc zero))) h = grind arith
days_of_months_closed year (suc (suc (suc (suc zero)))) h = grind arith
days_of_months_closed year (suc (suc (suc (suc (suc zero))))) h = grind arith
days_of_months_closed year (suc (suc (suc (suc (suc (suc zero)))))) h = grind arith
days_of_months_closed year (suc (suc (suc (suc (suc (suc (suc zero))))))) h = grind arith
days_of_months_closed year (suc (suc (suc (suc (suc (suc (suc (suc zero)))))))) h = grind arith
days_of_months_closed year (suc (suc (suc (suc (suc (suc (suc (suc (suc zero))))))))) h = grind arith
days_of_months_closed year (suc (suc (suc (suc (suc (suc (suc (suc (suc (suc zero)))))))))) h = grind arith
days_of_months_closed year (suc (suc (suc (suc (suc (suc (suc (suc (suc (suc (suc zero))))))))))) h = grind arith
days_of_months_closed year (suc (suc (suc (suc (suc (suc (suc (suc (suc (suc (suc (suc n)))))))))))) h = absurd (omega arith)

pub days_of_months_more : (year month : ℕ) → 1 ≤ month → days_of_months year month ≡ days_of_months year (month - 1) + days_in_month year month
unfolding days_of_months
days_of_months_more year zero h = absurd (omega arith)
days_of_months_more year (suc month) h =
    let back : suc month - 1 ≡ month = omega arith in
    rw back

pub days_of_months_all : (year : ℕ) → days_of_months year 12 ≡ days_in_year year
days_of_months_all year = grind (arith, days_of_months_closed year 11 (omega arith), days_of_months_more year 12 (omega arith))

days_of_months_mono : (year month k : ℕ) → days_of_months year month ≤ days_of_months year (month + k)
unfolding days_of_months
days_of_months_mono year month zero = let same : month + 0 ≡ month = omega arith in rw same (omega arith)
days_of_months_mono year month (suc k) =
    let before = days_of_months_mono year month k in
    let next : month + suc k ≡ suc (month + k) = omega arith in
    rw next (omega arith)

pub days_of_months_up : (year month later : ℕ) → month ≤ later → days_of_months year month ≤ days_of_months year later
days_of_months_up year month later h =
    let same : month + (later - month) ≡ later = omega arith in
    rw same at (days_of_months_mono year month (later - month))

days_of_years_mono : (n k : ℕ) → days_of_years n ≤ days_of_years (n + k)
unfolding days_of_years
days_of_years_mono n zero = let same : n + 0 ≡ n = omega arith in rw same (omega arith)
days_of_years_mono n (suc k) =
    let before = days_of_years_mono n k in
    let next : n + suc k ≡ suc (n + k) = omega arith in
    rw next (omega arith)

pub days_of_years_up : (n later : ℕ) → n ≤ later → days_of_years n ≤ days_of_years later
days_of_years_up n later h =
    let same : n + (later - n) ≡ later = omega arith in
    rw same at (days_of_years_mono n (later - n))

pub days_of_years_more : (n : ℕ) → days_of_years (suc n) ≡ days_of_years n + days_in_year (1970 + n)
unfolding days_of_years
days_of_years_more n = refl

-- a day of a month lies before each later month
pub day_before_month : (year month day later : ℕ) → IsDate year month day → month ≤ later
    → days_of_months year (month - 1) + (day - 1) < days_of_months year later
day_before_month year month day later h le =
    let more = days_of_months_more year month h.a_month.0 in
    let up = days_of_months_up year month later le in
    let d = h.a_day in
    omega arith

-- a day of a year lies before its end
pub day_before_year_end : (year month day : ℕ) → IsDate year month day → days_of_months year (month - 1) + (day - 1) < days_in_year year
day_before_year_end year month day h =
    let inside = day_before_month year month day 12 h h.a_month.1 in
    let all = days_of_months_all year in
    omega arith

-- and before each later year
pub day_before_year : (year month day later : ℕ) → IsDate year month day → year < later → day_of year month day < days_of_years (later - 1970)
day_before_year year month day later h lt =
    let inside = day_before_year_end year month day h in
    let low = h.a_year.0 in
    let more = days_of_years_more (year - 1970) in
    let same : 1970 + (year - 1970) ≡ year = omega arith in
    let more' = rw same at more in
    let up = days_of_years_up (suc (year - 1970)) (later - 1970) (omega arith) in
    omega arith

pub day_of_end : day_of 10000 1 1 ≡ 2932897
unfolding days_of_months
day_of_end = omega (arith, days_of_years_closed 8030)

pub day_below_end : (year month day : ℕ) → IsDate year month day → day_of year month day < 2932897
day_below_end year month day h =
    let high = h.a_year.1 in
    omega (arith, day_before_year year month day 10000 h (omega arith), days_of_years_closed 8030)
