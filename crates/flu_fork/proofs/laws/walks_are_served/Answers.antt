use Rattle.flu_fork.proofs.ServedWalk.{left_served_law, others_law}
use Rattle.flu_fork.proofs.laws.walks_are_served.Goals as goal

pub returns : goal.returns
returns c = record { served = left_served_law c.laws_below.ensures; others = others_law c.laws_below.ensures }
