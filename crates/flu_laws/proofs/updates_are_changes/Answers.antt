use Rattle.flu_laws.proofs.Updating.{updates_are_changes, keeps_sorts, fold_keeps_sorts}
use Rattle.flu_laws.proofs.updates_are_changes.Goals as goal

pub returns : goal.returns
returns c = record { changes = updates_are_changes; sorts = keeps_sorts; fold = fold_keeps_sorts }
