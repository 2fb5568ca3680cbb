use Rattle.flu_deps.proofs.LawLemmas.{itags_are_owned}
use Rattle.flu_deps.proofs.laws.itags_are_owned.Goals as goal

pub returns : goal.returns
returns c = itags_are_owned
