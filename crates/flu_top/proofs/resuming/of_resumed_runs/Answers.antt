use Rattle.flu_top.proofs.Leaving.{runs_leave, resumed_write}
use Rattle.flu_top.proofs.resuming.of_resumed_runs.Goals as goal

pub returns-clause-leaves : goal.returns-clause-leaves
returns-clause-leaves c = runs_leave c.checkpoints_have_one_meaning.ensures

pub returns-clause-writes : goal.returns-clause-writes
returns-clause-writes c = resumed_write
