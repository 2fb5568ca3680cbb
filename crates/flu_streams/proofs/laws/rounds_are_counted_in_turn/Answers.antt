use Rattle.flu_streams.proofs.CountLaws.{law_of_counts, one_more_in_turn}
use Rattle.flu_streams.proofs.laws.rounds_are_counted_in_turn.Goals as goal

pub returns : goal.returns
returns c = record { rounds = law_of_counts; one_more = one_more_in_turn }
