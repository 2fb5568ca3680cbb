use Rattle.flu_fork.proofs.Updates.{updates_law}
use Rattle.flu_fork.proofs.laws.updates_fit.Goals as goal

pub returns : goal.returns
returns c = updates_law c.laws_below.ensures
