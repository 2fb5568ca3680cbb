use Rattle.flu_fork.proofs.StreamLemmas.{prefix_law, exactness_law}
use Rattle.flu_fork.proofs.laws.prefixes_are_of_streams.Goals as goal

pub returns : goal.returns
returns c = record { prefix = prefix_law c.laws_below.ensures; exact = exactness_law c.laws_below.ensures }
