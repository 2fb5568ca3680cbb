use Rattle.flu_fork.proofs.WalkLemmas.{walks_law}
use Rattle.flu_fork.proofs.WalkValues.{count_law}
use Rattle.flu_fork.proofs.laws.walks_fit.Goals as goal

pub returns : goal.returns
returns c = record { rows = walks_law c.laws_below.ensures; values = count_law c.laws_below.ensures }
