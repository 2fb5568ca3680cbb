use Rattle.flu_save.proofs.Saves.{law_of_saves, saves_have_no_fault, saves_mean_themselves}
use Rattle.flu_save.proofs.laws.save_is_a_checkpoint.Goals as goal

pub returns-clause-checkpoint : goal.returns-clause-checkpoint
returns-clause-checkpoint c = law_of_saves

pub returns-clause-no_fault : goal.returns-clause-no_fault
returns-clause-no_fault c = saves_have_no_fault

pub returns-clause-meaning : goal.returns-clause-meaning
returns-clause-meaning c = saves_mean_themselves
