use Rattle.std.proofs.Common.{sym}
use Rattle.flu_calendar.proofs.DateOf.{YearFound, year_of_is, month_of_is, day_in_month_is, date_found}
use Rattle.flu_calendar.proofs.date.date_of.Goals as goal

pub returns-clause-year : goal.returns-clause-year
returns-clause-year c =
    let y = c.year_at-year.ensures in
    let found : YearFound c.args.day c.year_at-year.result.0 c.year_at-year.result.1 = record { low = y.low; high = y.high; sum = y.sum; within = y.within } in
    sym (year_of_is c.args.day c.year_at-year.result.0 c.year_at-year.result.1 found)

pub returns-clause-month : goal.returns-clause-month
returns-clause-month c =
    let y = c.year_at-year.ensures in
    let found : YearFound c.args.day c.year_at-year.result.0 c.year_at-year.result.1 = record { low = y.low; high = y.high; sum = y.sum; within = y.within } in
    sym (month_of_is c.args.day c.year_at-year.result.0 c.year_at-year.result.1 c.month_at-month.result.0 c.month_at-month.result.1 found c.month_at-month.ensures)

pub returns-clause-day : goal.returns-clause-day
returns-clause-day c =
    let y = c.year_at-year.ensures in
    let found : YearFound c.args.day c.year_at-year.result.0 c.year_at-year.result.1 = record { low = y.low; high = y.high; sum = y.sum; within = y.within } in
    sym (day_in_month_is c.args.day c.year_at-year.result.0 c.year_at-year.result.1 c.month_at-month.result.0 c.month_at-month.result.1 found c.month_at-month.ensures)

pub returns-clause-a_date : goal.returns-clause-a_date
returns-clause-a_date c =
    let y = c.year_at-year.ensures in
    let found : YearFound c.args.day c.year_at-year.result.0 c.year_at-year.result.1 = record { low = y.low; high = y.high; sum = y.sum; within = y.within } in
    date_found c.args.day c.year_at-year.result.0 c.year_at-year.result.1 c.month_at-month.result.0 c.month_at-month.result.1 found c.month_at-month.ensures
