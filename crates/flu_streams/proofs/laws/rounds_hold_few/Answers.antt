use Rattle.flu_streams.proofs.Bounds.{law_of_bounds}
use Rattle.flu_streams.proofs.laws.rounds_hold_few.Goals as goal

pub returns : goal.returns
returns c = law_of_bounds
