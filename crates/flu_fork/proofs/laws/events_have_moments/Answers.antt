use Rattle.flu_fork.proofs.PlaceLemmas.{events_law, moments_law, known_law}
use Rattle.flu_fork.proofs.laws.events_have_moments.Goals as goal

pub returns : goal.returns
returns c = record { moments = events_law c.laws_below.ensures; events = moments_law c.laws_below.ensures; known = known_law c.laws_below.ensures }
