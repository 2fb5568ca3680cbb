use Rattle.flu_worker.proofs.Nexts.{next_is_exact}
use Rattle.flu_worker.proofs.laws.next_events_are_exact.Goals as goal

pub returns : goal.returns
returns c = next_is_exact c.laws_below.ensures
