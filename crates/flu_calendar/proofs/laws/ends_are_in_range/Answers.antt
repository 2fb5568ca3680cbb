use Rattle.flu_calendar.proofs.Computed.{ends_are_in_range}
use Rattle.flu_calendar.proofs.laws.ends_are_in_range.Goals as goal

pub returns : goal.returns
returns c = ends_are_in_range
