use Rattle.flu_fork.proofs.KinLemmas.{nodes_law, kids_law, root_law}
use Rattle.flu_fork.proofs.laws.itags_are_of_nodes.Goals as goal

pub returns : goal.returns
returns c = record { nodes = nodes_law c.laws_below.ensures; kids = kids_law c.laws_below.ensures; root = root_law c.laws_below.ensures }
