use Rattle.flu_laws.proofs.Uses.{needs_by_actions, writes_by_actions}
use Rattle.flu_laws.proofs.modes_are_of_actions.Goals as goal

pub returns : goal.returns
returns c = record { needs = needs_by_actions; writes = writes_by_actions }
