use Rattle.flu_outside.proofs.PlayedWrites.{law_of_writes}
use Rattle.flu_outside.proofs.laws.writes_can_be_played.Goals as goal

pub returns : goal.returns
returns c = law_of_writes
