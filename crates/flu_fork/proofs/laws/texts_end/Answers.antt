use Rattle.flu_fork.proofs.TextLemmas.{ends_law, states_law, outputs_law}
use Rattle.flu_fork.proofs.laws.texts_end.Goals as goal

pub returns : goal.returns
returns c = record { texts = ends_law c.laws_below.ensures; states = states_law c.laws_below.ensures; outputs = outputs_law }
