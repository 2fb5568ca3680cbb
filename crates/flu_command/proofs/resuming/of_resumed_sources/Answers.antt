use Rattle.flu_command.proofs.ResumedRuns.{sources_decide, checkpoints_leave_sources}
use Rattle.flu_command.proofs.resuming.of_resumed_sources.Goals as goal

pub returns-clause-sources : goal.returns-clause-sources
returns-clause-sources c = sources_decide

pub returns-clause-checkpoint : goal.returns-clause-checkpoint
returns-clause-checkpoint c = checkpoints_leave_sources
