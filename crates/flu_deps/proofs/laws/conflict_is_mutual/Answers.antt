use Rattle.flu_deps.proofs.LawLemmas.{conflict_turns}
use Rattle.flu_deps.proofs.laws.conflict_is_mutual.Goals as goal

pub returns : goal.returns
returns c = conflict_turns
