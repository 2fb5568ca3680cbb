-- What a round has read of the sources tells the ticks of a clock up to its border.
use Rattle.flu_streams.proofs.Fronts.{all_further}
use Rattle.flu_streams.proofs.Ticks.{ticks_up_to}
use Rattle.flu_merge.specs.Ticks.{RoundsTellTicks}

pub rounds_tell_ticks : RoundsTellTicks
rounds_tell_ticks p every number rows above whole before now t three some few sound round =
    ticks_up_to p t now whole (all_further p rows t above whole before now sound round) every number three some few
