use Rattle.flu_save.proofs.Lengths.{law_of_short_texts}
use Rattle.flu_save.proofs.laws.save_is_short.Goals as goal

pub returns : goal.returns
returns c = law_of_short_texts
