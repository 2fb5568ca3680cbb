use Rattle.std.proofs.Common.{◌<◌, ℕ, arith}
use Rattle.flu_calendar.specs.declared.unit.Unit.TheVariants.{Seconds}
use Rattle.flu_calendar.specs.Units.{times_end}
use Rattle.flu_calendar.proofs.Days.{day_of_end}
use Rattle.flu_calendar.proofs.print.split.Goals as goal

second_is_time : (t : ℕ) → t < times_end Seconds → t < 253402300800
second_is_time t h = let e = day_of_end in omega arith

pub returns-in-Seconds-clause-below_end : goal.returns-in-Seconds-clause-below_end
returns-in-Seconds-clause-below_end c = second_is_time c.args.time (rw c.in-Seconds.is at c.requires)
