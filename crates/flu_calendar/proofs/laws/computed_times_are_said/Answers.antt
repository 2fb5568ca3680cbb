use Rattle.flu_calendar.proofs.Computed.{computed_times_are_said}
use Rattle.flu_calendar.proofs.laws.computed_times_are_said.Goals as goal

pub returns : goal.returns
returns c = computed_times_are_said
