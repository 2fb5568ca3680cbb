use Rattle.flu_fork.proofs.Joining.{joins_law}
use Rattle.flu_fork.proofs.laws.joins_fit.Goals as goal

pub returns : goal.returns
returns c = joins_law c.laws_below.ensures
