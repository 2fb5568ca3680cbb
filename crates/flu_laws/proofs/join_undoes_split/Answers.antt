use Rattle.flu_laws.proofs.Laws.{splits_law}
use Rattle.flu_laws.proofs.join_undoes_split.Goals as goal

pub returns : goal.returns
returns c = splits_law
