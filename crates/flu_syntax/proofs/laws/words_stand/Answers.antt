use Rattle.flu_syntax.proofs.Words.{words_stand}
use Rattle.flu_syntax.proofs.laws.words_stand.Goals as goal

pub returns : goal.returns
returns c = words_stand c.signs_stand.ensures
