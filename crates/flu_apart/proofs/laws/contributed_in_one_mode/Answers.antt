use Rattle.flu_apart.proofs.LawLemmas.{one_mode}
use Rattle.flu_apart.proofs.laws.contributed_in_one_mode.Goals as goal

pub returns : goal.returns
returns c = λ p nodes w d e. one_mode p nodes w d e
