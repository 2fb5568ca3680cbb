use Rattle.flu_apart.proofs.LawLemmas.{leaves_kept}
use Rattle.flu_apart.proofs.laws.kept_is_left.Goals as goal

pub returns : goal.returns
returns c = λ p nodes w.
    leaves_kept p nodes w c.updates_are_local.ensures.texts c.updates_are_local.ensures.changes c.updates_are_changes.ensures.changes
    c.changes_keep_to_modes.ensures.idle c.changes_keep_to_modes.ensures.mixing
