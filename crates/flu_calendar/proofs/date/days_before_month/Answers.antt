use Rattle.std.proofs.Common.{◌-◌, arith}
use Rattle.std.proofs.lemmas.Bool.Decides.{nat_tests}
use Rattle.flu_calendar.proofs.Days.{days_of_months_closed}
use Rattle.flu_calendar.proofs.date.days_before_month.Goals as goal

pub returns-then-month-le2-clause-value : goal.returns-then-month-le2-clause-value
returns-then-month-le2-clause-value c = grind (arith, nat_tests, days_of_months_closed c.args.year (c.args.month - 1) (omega arith))

pub returns-then-is_leap-clause-value : goal.returns-then-is_leap-clause-value
returns-then-is_leap-clause-value c = grind (arith, nat_tests, days_of_months_closed c.args.year (c.args.month - 1) (omega arith))

pub returns-else-is_leap-clause-value : goal.returns-else-is_leap-clause-value
returns-else-is_leap-clause-value c = grind (arith, nat_tests, days_of_months_closed c.args.year (c.args.month - 1) (omega arith))
