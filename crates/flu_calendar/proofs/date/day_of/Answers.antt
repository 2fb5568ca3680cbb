use Rattle.std.proofs.Common.{◌≡◌, ◌+◌, ◌-◌, arith}
use Rattle.flu_calendar.proofs.Days.{days_of_years_closed, day_below_end}
use Rattle.flu_calendar.proofs.date.day_of.Goals as goal

pub returns-clause-value : goal.returns-clause-value
returns-clause-value c =
    let past : c.args.year - 1970 + 369 ≡ c.args.year - 1601 = omega arith in
    omega (arith, rw past at (days_of_years_closed (c.args.year - 1970)))

pub returns-clause-below_end : goal.returns-clause-below_end
returns-clause-below_end c =
    let past : c.args.year - 1970 + 369 ≡ c.args.year - 1601 = omega arith in
    omega (arith, rw past at (days_of_years_closed (c.args.year - 1970)), day_below_end _ _ _ c.requires)
