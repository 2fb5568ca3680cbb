use Rattle.flu_merge.proofs.Ticks.{rounds_tell_ticks}
use Rattle.flu_merge.proofs.laws.rounds_tell_ticks.Goals as goal

pub returns : goal.returns
returns c = rounds_tell_ticks
