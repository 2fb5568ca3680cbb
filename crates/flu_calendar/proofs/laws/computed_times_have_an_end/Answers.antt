use Rattle.flu_calendar.proofs.Computed.{computed_times_have_an_end}
use Rattle.flu_calendar.proofs.laws.computed_times_have_an_end.Goals as goal

pub returns : goal.returns
returns c = computed_times_have_an_end
