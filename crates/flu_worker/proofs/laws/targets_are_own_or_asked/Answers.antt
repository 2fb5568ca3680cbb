use Rattle.flu_worker.proofs.Waiting.{new_targets}
use Rattle.flu_worker.proofs.laws.targets_are_own_or_asked.Goals as goal

pub returns : goal.returns
returns c = new_targets c.laws_below.ensures
