use Rattle.std.proofs.Common.{arith}
use Rattle.flu_calendar.proofs.Days.{day_of_end}
use Rattle.flu_calendar.proofs.unit.times_end.Goals as goal

pub returns-clause-value : goal.returns-clause-value
returns-clause-value c = rw day_of_end (grind arith)
