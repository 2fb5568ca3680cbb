use Rattle.flu_streams.proofs.LastRound.{law_of_last_above}
use Rattle.flu_streams.proofs.laws.last_round_has_later_rows.Goals as goal

pub returns : goal.returns
returns c = law_of_last_above
