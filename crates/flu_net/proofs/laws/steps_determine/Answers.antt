use Rattle.flu_net.proofs.Alike.{alike_enabled, alike_final, starts_alike, steps_alike}
use Rattle.flu_net.proofs.laws.steps_determine.Goals as goal

pub returns : goal.returns
returns c = record { start = starts_alike; step = steps_alike c.laws_below.ensures; enabled = alike_enabled; end = alike_final }
