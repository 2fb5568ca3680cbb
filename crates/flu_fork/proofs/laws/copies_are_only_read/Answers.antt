use Rattle.flu_fork.proofs.Cells.{only_read_law}
use Rattle.flu_fork.proofs.laws.copies_are_only_read.Goals as goal

pub returns : goal.returns
returns c = only_read_law c.laws_below.ensures
