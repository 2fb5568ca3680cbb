use Rattle.flu_text.proofs.Signs.{signs_stand}
use Rattle.flu_text.proofs.laws.signs_stand.Goals as goal

pub returns : goal.returns
returns c = signs_stand
