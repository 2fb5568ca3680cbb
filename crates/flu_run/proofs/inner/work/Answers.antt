use Rattle.flu_run.proofs.Settling.{if_turned}
use Rattle.flu_run.proofs.inner.work.Goals as goal

pub returns : goal.returns
returns g c = if_turned c.take_turns-turned.result c.rest_of.result _ _ c.take_turns-turned.ensures c.rest_of.ensures
