use Rattle.flu_worker.proofs.OneTarget.{one_target}
use Rattle.flu_worker.proofs.laws.targets_are_one.Goals as goal

pub returns : goal.returns
returns c = one_target c.laws_below.ensures
