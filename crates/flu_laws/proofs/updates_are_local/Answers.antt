use Rattle.flu_laws.proofs.Updating.{texts_are_local, cells_are_local, changes_are_local}
use Rattle.flu_laws.proofs.updates_are_local.Goals as goal

pub returns : goal.returns
returns c = record { texts = texts_are_local; cells = cells_are_local; changes = changes_are_local }
