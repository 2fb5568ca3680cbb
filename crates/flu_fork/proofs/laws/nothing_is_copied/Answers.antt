use Rattle.flu_fork.proofs.Cells.{nothing_copied}
use Rattle.flu_fork.proofs.laws.nothing_is_copied.Goals as goal

pub returns : goal.returns
returns c = nothing_copied c.version_1_reads_are_owned.ensures.nothing_is_shared
