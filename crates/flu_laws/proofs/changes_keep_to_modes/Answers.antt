use Rattle.flu_laws.proofs.Lawful.{changes_keep_sorts, changes_mix}
use Rattle.flu_laws.proofs.Updating.{unwritten_keeps}
use Rattle.flu_laws.proofs.changes_keep_to_modes.Goals as goal

pub returns : goal.returns
returns c = record { idle = unwritten_keeps; sorts = changes_keep_sorts; mixing = changes_mix }
