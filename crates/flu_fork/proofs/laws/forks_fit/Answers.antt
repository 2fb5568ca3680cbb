use Rattle.flu_fork.proofs.Forking.{forks_law}
use Rattle.flu_fork.proofs.laws.forks_fit.Goals as goal

pub returns : goal.returns
returns c = forks_law c.laws_below.ensures
