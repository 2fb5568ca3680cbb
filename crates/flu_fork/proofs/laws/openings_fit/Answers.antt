use Rattle.flu_fork.proofs.Forking.{opening_law}
use Rattle.flu_fork.proofs.laws.openings_fit.Goals as goal

pub returns : goal.returns
returns c = opening_law c.laws_below.ensures
