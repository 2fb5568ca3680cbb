use Rattle.flu_save.proofs.Saves.{saves_are_of_jobs}
use Rattle.flu_save.proofs.laws.checkpoints_are_of_jobs.Goals as goal

pub returns : goal.returns
returns c = saves_are_of_jobs
