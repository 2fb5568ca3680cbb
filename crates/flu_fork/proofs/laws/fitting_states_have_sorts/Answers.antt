use Rattle.flu_fork.proofs.Holding.{fitting_law}
use Rattle.flu_fork.proofs.laws.fitting_states_have_sorts.Goals as goal

pub returns : goal.returns
returns c = fitting_law c.laws_below.ensures
