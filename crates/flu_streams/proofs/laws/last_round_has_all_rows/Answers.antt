use Rattle.flu_streams.proofs.LastRound.{law_of_last_round}
use Rattle.flu_streams.proofs.laws.last_round_has_all_rows.Goals as goal

pub returns : goal.returns
returns c = law_of_last_round
