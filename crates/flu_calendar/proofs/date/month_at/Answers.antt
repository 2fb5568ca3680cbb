use Rattle.std.proofs.Common.{arith}
use Rattle.flu_calendar.proofs.DateOf.{month_early, month_late}
use Rattle.flu_calendar.proofs.date.month_at.Goals as goal

pub returns-then-late-lt61 : goal.returns-then-late-lt61
returns-then-late-lt61 c =
    let is = c.lacks.ensures in
    rw c.month_on_line.ensures.day (month_early c.args.year c.args.over c.month_on_line.result.0 (omega arith) c.month_on_line.ensures.month)

pub returns-else-late-lt61 : goal.returns-else-late-lt61
returns-else-late-lt61 c =
    let is = c.lacks.ensures in
    rw (c.month_on_line-else-late-lt61.ensures.day, is)
    (month_late c.args.year c.args.over c.month_on_line-else-late-lt61.result.0 (omega arith) c.requires
    (rw is at c.month_on_line-else-late-lt61.ensures.month))
