use Rattle.flu_save.proofs.Meanings.{law_of_faults}
use Rattle.flu_save.proofs.laws.faults_are_no_checkpoints.Goals as goal

pub returns : goal.returns
returns c = law_of_faults
