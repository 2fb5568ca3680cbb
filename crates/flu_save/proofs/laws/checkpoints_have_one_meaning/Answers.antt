use Rattle.flu_save.proofs.Meanings.{law_of_one_meaning}
use Rattle.flu_save.proofs.laws.checkpoints_have_one_meaning.Goals as goal

pub returns : goal.returns
returns c = law_of_one_meaning
