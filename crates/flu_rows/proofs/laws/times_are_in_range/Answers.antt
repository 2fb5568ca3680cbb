use Rattle.flu_rows.proofs.TimeRanges.{times_are_in_range}
use Rattle.flu_rows.proofs.laws.times_are_in_range.Goals as goal

pub returns : goal.returns
returns c = times_are_in_range c.computed_times_have_an_end.ensures c.ends_are_in_range.ensures
