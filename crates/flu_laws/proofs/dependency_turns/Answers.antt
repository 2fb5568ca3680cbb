use Rattle.flu_laws.proofs.Uses.{dependent_turns}
use Rattle.flu_laws.proofs.dependency_turns.Goals as goal

pub returns : goal.returns
returns c = dependent_turns
