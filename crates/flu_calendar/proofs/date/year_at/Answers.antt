use Rattle.std.proofs.Common.{◌≡◌, ◌+◌, ◌-◌, ◌*◌, ◌/◌, ◌%◌, ◌∙◌, arith}
use Rattle.flu_calendar.proofs.Days.{days_of_years_closed}
use Rattle.flu_calendar.proofs.Cycles.{cycles, centuries, leap_cycles, years, total, whole}
use Rattle.flu_calendar.proofs.date.year_at.Goals as goal

pub returns-clause-sum : goal.returns-clause-sum
returns-clause-sum c =
    let since = c.args.day + 134774 in
    let q = since / 146097 in
    let x = since % 146097 in
    let k = c.min-centuries.result in
    let r = (x - k * 36524) / 1461 in
    let s = c.min-ones.result in
    let hk = centuries x k (whole since).1 c.min-centuries.ensures in
    let hr = leap_cycles (x - k * 36524) hk.2 in
    let hs = years (x - k * 36524 - r * 1461) s c.min-ones.ensures in
    let n = 1601 + 400 * q + 100 * k + 4 * r + s - 1970 in
    let past : n + 369 ≡ 400 * q + 100 * k + 4 * r + s = omega arith in
    let closed = (rw past at (days_of_years_closed n)) ∙ cycles q k r s hk.0 hr.0 hs.0 in
    total c.args.day _ q x k r s (whole since).0 hk.1 hr.1 hs.1 closed
