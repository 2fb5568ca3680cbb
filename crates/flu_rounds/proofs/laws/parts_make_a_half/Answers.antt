use Rattle.flu_rounds.proofs.Halves.{law_of_parts}
use Rattle.flu_rounds.proofs.laws.parts_make_a_half.Goals as goal

pub returns : goal.returns
returns c = law_of_parts
