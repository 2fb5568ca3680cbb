use Rattle.flu_streams.proofs.InTurn.{law_of_rounds}
use Rattle.flu_streams.proofs.RoundLaws.{law_of_no_rows}
use Rattle.flu_streams.proofs.laws.rounds_are_folded_in_turn.Goals as goal

pub returns : goal.returns
returns c = record { rounds = law_of_rounds; none = law_of_no_rows }
