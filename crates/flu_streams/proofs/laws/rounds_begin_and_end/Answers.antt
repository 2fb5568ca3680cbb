use Rattle.flu_streams.proofs.Starts.{law_of_start, law_of_ends}
use Rattle.flu_streams.proofs.laws.rounds_begin_and_end.Goals as goal

pub returns : goal.returns
returns c = record { start = law_of_start; ends = law_of_ends }
