use Rattle.std.proofs.Common.{◌/◌, subst, sym}
use Rattle.std.specs.Str.{IsAscii}
use Rattle.flu_calendar.specs.Calendar.{year_of, month_of, day_in_month}
use Rattle.flu_calendar.proofs.Printed.{date_ascii}
use Rattle.flu_calendar.proofs.print.push_time.Goals as goal

pub push_bytes-requires-clause-ascii : goal.push_bytes-requires-clause-ascii
push_bytes-requires-clause-ascii c =
    let day = c.split-second.result.0 / 86400 in
    subst IsAscii (sym c.date_bytes.ensures.value) (date_ascii (year_of day) (month_of day) (day_in_month day))
