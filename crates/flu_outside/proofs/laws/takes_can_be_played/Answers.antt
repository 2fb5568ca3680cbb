use Rattle.flu_outside.proofs.PlayedTakes.{law_of_takes}
use Rattle.flu_outside.proofs.laws.takes_can_be_played.Goals as goal

pub returns : goal.returns
returns c = law_of_takes
