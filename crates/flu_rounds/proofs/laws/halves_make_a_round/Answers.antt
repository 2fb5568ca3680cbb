use Rattle.flu_rounds.proofs.Halves.{law_of_halves, law_of_half}
use Rattle.flu_rounds.proofs.laws.halves_make_a_round.Goals as goal

pub returns-clause-round : goal.returns-clause-round
returns-clause-round c = law_of_halves

pub returns-clause-part : goal.returns-clause-part
returns-clause-part c = law_of_half
