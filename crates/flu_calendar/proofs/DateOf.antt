-- The date of a day: its year and its month are the last ones that have begun by then.
use Rattle.std.proofs.Common.{◌≡◌, inl, inr, ℕ, zero, suc, ◌+◌, ◌-◌, ◌*◌, ◌/◌, ◌<◌, ◌≤◌, refl, ◌∙◌, arith}
use Rattle.std.proofs.lemmas.Bool.Decides.{nat_tests}
use Rattle.std.proofs.lemmas.Bool.{cases_lt}
use Rattle.flu_calendar.specs.Calendar.{lacks, days_in_year, days_of_years, days_of_months, day_of, IsDate, years_over, months_over, year_of, month_of, day_in_year, day_in_month, MonthFound}
use Rattle.flu_calendar.proofs.Days.{days_of_months_closed, days_of_months_all, days_of_months_more, days_of_months_up, days_of_years_up, days_of_years_more, days_of_years_closed, day_before_year_end, day_before_month}

years_over_then : (n day : ℕ) → days_of_years (suc n) ≤ day → years_over (suc n) day ≡ suc n
unfolding years_over
years_over_then n day h = grind (arith, nat_tests)

years_over_else : (n day : ℕ) → day < days_of_years (suc n) → years_over (suc n) day ≡ years_over n day
unfolding years_over
years_over_else n day h = grind (arith, nat_tests)

-- the last of the first n years that has begun is the one in which the day is
pub years_over_is : (n k day : ℕ) → k ≤ n → days_of_years k ≤ day → day < days_of_years (suc k) → years_over n day ≡ k
years_over_is zero k day le begun not_over = unfold years_over in omega arith
years_over_is (suc n) k day le begun not_over =
    elim (cases_lt k (suc n)) [
      | inl less ↦
          let up = days_of_years_up (suc k) (suc n) less in
          let h : day < days_of_years (suc n) = omega arith in
          years_over_else n day h ∙ years_over_is n k day (omega arith) begun not_over
      | inr more ↦
          let e : k ≡ suc n = omega arith in
          rw e (years_over_then n day (rw e at begun))
    ]

months_over_then : (year n day : ℕ) → days_of_months year (suc n) ≤ day → months_over year (suc n) day ≡ suc n
unfolding months_over
months_over_then year n day h = grind (arith, nat_tests)

months_over_else : (year n day : ℕ) → day < days_of_months year (suc n) → months_over year (suc n) day ≡ months_over year n day
unfolding months_over
months_over_else year n day h = grind (arith, nat_tests)

-- and the last month that has begun is the one in which the day is
pub months_over_is : (year n k day : ℕ) → k ≤ n → days_of_months year k ≤ day → day < days_of_months year (suc k) → months_over year n day ≡ k
months_over_is year zero k day le begun not_over = unfold months_over in omega arith
months_over_is year (suc n) k day le begun not_over =
    elim (cases_lt k (suc n)) [
      | inl less ↦
          let up = days_of_months_up year (suc k) (suc n) less in
          let h : day < days_of_months year (suc n) = omega arith in
          months_over_else year n day h ∙ months_over_is year n k day (omega arith) begun not_over
      | inr more ↦
          let e : k ≡ suc n = omega arith in
          rw e (months_over_then year n day (rw e at begun))
    ]

early : (year n : ℕ) → n ≤ 1 → days_of_months year n ≡ (367 * (n + 1) - 362) / 12
early year n h = grind (arith, nat_tests, days_of_months_closed year n (omega arith))

late : (year n : ℕ) → 1 < n → n < 12 → days_of_months year n + lacks year ≡ (367 * (n + 1) - 362) / 12
late year n h k = grind (arith, nat_tests, days_of_months_closed year n k)

lacks_bounds : (year : ℕ) → (1 ≤ lacks year) × (lacks year ≤ 2) × (days_in_year year + lacks year ≡ 367)
lacks_bounds year = grind arith

-- the numbers of the line alone
line : (b m : ℕ) → b < 367 → m ≡ (b * 12 + 373) / 367
    → (1 ≤ m) × (m ≤ 12) × ((367 * m - 362) / 12 ≤ b) × (b < (367 * (m + 1) - 362) / 12) × (b - (367 * m - 362) / 12 < 31)
line b m h e = omega arith

pub month_early : (year over month : ℕ) → over + lacks year < 61 → month ≡ (over * 12 + 373) / 367
    → MonthFound year over month (over - (367 * month - 362) / 12 + 1)
month_early year over month h e =
    let bounds = lacks_bounds year in
    let on_line = line over month (omega arith) e in
    let soon : month ≤ 2 = omega arith in
    let back : month - 1 + 1 ≡ month = omega arith in
    let before = rw back at (early year (month - 1) (omega arith)) in
    record {
      low = on_line.0;
      high = on_line.1;
      begun = omega arith;
      within = elim (cases_lt month 2) [
        | inl less ↦ omega (arith, early year month (omega arith))
        | inr more ↦ let two : month ≡ 2 = omega arith in rw two (omega (arith, late year 2 (omega arith) (omega arith)))
      ];
      day_is = omega arith;
    }

pub month_late : (year over month : ℕ) → 61 ≤ over + lacks year → over < days_in_year year → month ≡ ((over + lacks year) * 12 + 373) / 367
    → MonthFound year over month (over + lacks year - (367 * month - 362) / 12 + 1)
month_late year over month h within e =
    let bounds = lacks_bounds year in
    let on_line = line (over + lacks year) month (omega arith) e in
    let later : 3 ≤ month = omega arith in
    let back : month - 1 + 1 ≡ month = omega arith in
    let before = rw back at (late year (month - 1) (omega arith) (omega arith)) in
    record {
      low = on_line.0;
      high = on_line.1;
      begun = omega arith;
      within = elim (cases_lt month 12) [
        | inl less ↦ omega (arith, late year month (omega arith) less)
        | inr more ↦ let twelve : month ≡ 12 = omega arith in rw twelve (omega (arith, days_of_months_all year))
      ];
      day_is = omega arith;
    }

pub line_fits : (year over : ℕ) → over < days_in_year year → over + lacks year < 367
line_fits year over h = omega (arith, lacks_bounds year)

pub line_below : (b m : ℕ) → b < 367 → m ≡ (b * 12 + 373) / 367 → (1 ≤ m) × (m ≤ 12) × ((367 * m - 362) / 12 ≤ b)
line_below b m h e = let on_line = line b m h e in (on_line.0, on_line.1, on_line.2)

-- a day is in a year, of which so many days are over before it
pub record YearFound (n year over : ℕ) : Type 0 where
  pub low : 1970 ≤ year
  pub high : year ≤ 9999
  pub sum : days_of_years (year - 1970) + over ≡ n
  pub within : over < days_in_year year

pub year_is : (day year over : ℕ) → YearFound day year over → years_over 8029 day ≡ year - 1970
year_is day year over h =
    let low = h.low in
    let high = h.high in
    let sum = h.sum in
    let within = h.within in
    let same : 1970 + (year - 1970) ≡ year = omega arith in
    let more = rw same at (days_of_years_more (year - 1970)) in
    years_over_is 8029 (year - 1970) day (omega arith) (omega arith) (omega arith)

pub year_of_is : (day year over : ℕ) → YearFound day year over → year_of day ≡ year
year_of_is day year over h =
    let low = h.low in
    let e = year_is day year over h in
    omega arith

day_in_year_is : (day year over : ℕ) → YearFound day year over → day_in_year day ≡ over
day_in_year_is day year over h =
    let sum = h.sum in
    let e = year_is day year over h in
    rw e (omega arith)

months_are : (day year over month n : ℕ) → YearFound day year over → MonthFound year over month n → months_over (year_of day) 11 (day_in_year day) ≡ month - 1
months_are day year over month n h k =
    let low = k.low in
    let high = k.high in
    let same : suc (month - 1) ≡ month = omega arith in
    rw (year_of_is day year over h, day_in_year_is day year over h)
    (months_over_is year 11 (month - 1) over (omega arith) k.begun (rw same k.within))

pub month_of_is : (day year over month n : ℕ) → YearFound day year over → MonthFound year over month n → month_of day ≡ month
month_of_is day year over month n h k =
    let low = k.low in
    let e = months_are day year over month n h k in
    omega arith

pub day_in_month_is : (day year over month n : ℕ) → YearFound day year over → MonthFound year over month n → day_in_month day ≡ n
day_in_month_is day year over month n h k =
    let low = k.low in
    let e = months_are day year over month n h k in
    let d = k.day_is in
    let before : month_of day - 1 ≡ month - 1 = omega arith in
    rw (before, year_of_is day year over h, day_in_year_is day year over h) (omega arith)

-- what was found is a date
pub date_found : (day year over month n : ℕ) → YearFound day year over → MonthFound year over month n → IsDate year month n
date_found day year over month n h k =
    let low = k.low in
    let begun = k.begun in
    let within = k.within in
    let d = k.day_is in
    let more = days_of_months_more year month low in
    record { a_year = (h.low, h.high); a_month = (k.low, k.high); a_day = (omega arith, omega arith) }

-- and it is the date of the day
pub day_found : (day year over month n : ℕ) → YearFound day year over → MonthFound year over month n → day_of year month n ≡ day
day_found day year over month n h k =
    let begun = k.begun in
    let d = k.day_is in
    let sum = h.sum in
    omega arith

-- ---- each day has a date
years_begun : (n day : ℕ) → days_of_years (years_over n day) ≤ day
unfolding years_over days_of_years
years_begun zero day = omega arith
years_begun (suc n) day =
    elim (cases_lt day (days_of_years (suc n))) [
      | inl less ↦ rw (years_over_else n day less) (years_begun n day)
      | inr more ↦ rw (years_over_then n day more) more
    ]

years_not_over : (n day : ℕ) → day < days_of_years (suc n) → day < days_of_years (suc (years_over n day))
years_not_over zero day h = unfold years_over in h
years_not_over (suc n) day h =
    elim (cases_lt day (days_of_years (suc n))) [
      | inl less ↦ rw (years_over_else n day less) (years_not_over n day less)
      | inr more ↦ rw (years_over_then n day more) h
    ]

years_at_most : (n day : ℕ) → years_over n day ≤ n
years_at_most zero day = unfold years_over in omega arith
years_at_most (suc n) day =
    elim (cases_lt day (days_of_years (suc n))) [
      | inl less ↦ rw (years_over_else n day less) (omega (arith, years_at_most n day))
      | inr more ↦ rw (years_over_then n day more) (omega arith)
    ]

months_begun : (year n day : ℕ) → days_of_months year (months_over year n day) ≤ day
months_begun year zero day = unfold months_over in unfold days_of_months in omega arith
months_begun year (suc n) day =
    elim (cases_lt day (days_of_months year (suc n))) [
      | inl less ↦ rw (months_over_else year n day less) (months_begun year n day)
      | inr more ↦ rw (months_over_then year n day more) more
    ]

months_not_over : (year n day : ℕ) → day < days_of_months year (suc n) → day < days_of_months year (suc (months_over year n day))
months_not_over year zero day h = unfold months_over in h
months_not_over year (suc n) day h =
    elim (cases_lt day (days_of_months year (suc n))) [
      | inl less ↦ rw (months_over_else year n day less) (months_not_over year n day less)
      | inr more ↦ rw (months_over_then year n day more) h
    ]

months_at_most : (year n day : ℕ) → months_over year n day ≤ n
months_at_most year zero day = unfold months_over in omega arith
months_at_most year (suc n) day =
    elim (cases_lt day (days_of_months year (suc n))) [
      | inl less ↦ rw (months_over_else year n day less) (omega (arith, months_at_most year n day))
      | inr more ↦ rw (months_over_then year n day more) (omega arith)
    ]

pub has_year : (day : ℕ) → day < 2932897 → YearFound day (year_of day) (day_in_year day)
has_year day h =
    let end : days_of_years 8030 ≡ 2932897 = omega (arith, days_of_years_closed 8030) in
    let k = years_over 8029 day in
    let begun = years_begun 8029 day in
    let not_over = years_not_over 8029 day (omega arith) in
    let most = years_at_most 8029 day in
    let more = days_of_years_more k in
    let back : 1970 + k - 1970 ≡ k = omega arith in
    record { low = omega arith; high = omega arith; sum = rw back (omega arith); within = omega arith }

pub has_month : (year over : ℕ) → over < days_in_year year
    → MonthFound year over (1 + months_over year 11 over) (1 + (over - days_of_months year (1 + months_over year 11 over - 1)))
has_month year over h =
    let all = days_of_months_all year in
    let k = months_over year 11 over in
    let begun = months_begun year 11 over in
    let not_over = months_not_over year 11 over (omega arith) in
    let most = months_at_most year 11 over in
    let back : 1 + k - 1 ≡ k = omega arith in
    let next : suc k ≡ 1 + k = omega arith in
    record { low = omega arith; high = omega arith; begun = rw back begun; within = rw (← next) not_over; day_is = refl }

-- the date of a day is a date, and it is that day
pub date_of_day : (n : ℕ) → n < 2932897 → IsDate (year_of n) (month_of n) (day_in_month n)
date_of_day n h = let y = has_year n h in date_found n (year_of n) (day_in_year n) (month_of n) (day_in_month n) y (has_month (year_of n) (day_in_year n) y.within)

pub day_of_date : (n : ℕ) → n < 2932897 → day_of (year_of n) (month_of n) (day_in_month n) ≡ n
day_of_date n h = let y = has_year n h in day_found n (year_of n) (day_in_year n) (month_of n) (day_in_month n) y (has_month (year_of n) (day_in_year n) y.within)

-- and it is the only one
pub year_of_date : (year month day : ℕ) → IsDate year month day → YearFound (day_of year month day) year (days_of_months year (month - 1) + (day - 1))
year_of_date year month day h =
    let inside = day_before_year_end year month day h in
    record { low = h.a_year.0; high = h.a_year.1; sum = omega arith; within = inside }

pub month_of_date : (year month day : ℕ) → IsDate year month day → MonthFound year (days_of_months year (month - 1) + (day - 1)) month day
month_of_date year month day h =
    let inside = day_before_month year month day month h (omega arith) in
    let low = h.a_day.0 in
    record { low = h.a_month.0; high = h.a_month.1; begun = omega arith; within = inside; day_is = omega arith }
