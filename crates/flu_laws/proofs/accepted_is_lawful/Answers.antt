use Rattle.flu_laws.proofs.Lawful.{acceptance_by_uses, accepted_is_lawful}
use Rattle.flu_laws.proofs.accepted_is_lawful.Goals as goal

pub returns : goal.returns
returns c = record { uses = acceptance_by_uses; lawful = accepted_is_lawful }
