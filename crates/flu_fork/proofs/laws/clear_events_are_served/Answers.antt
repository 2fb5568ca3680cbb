use Rattle.flu_fork.proofs.ServingLemmas.{clear_law, leaves_law}
use Rattle.flu_fork.proofs.laws.clear_events_are_served.Goals as goal

pub returns : goal.returns
returns c = record { clear = clear_law c.laws_below.ensures; leaf = leaves_law c.laws_below.ensures }
