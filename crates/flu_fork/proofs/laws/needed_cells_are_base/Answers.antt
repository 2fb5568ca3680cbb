use Rattle.flu_fork.proofs.Cells.{needed_law}
use Rattle.flu_fork.proofs.laws.needed_cells_are_base.Goals as goal

pub returns : goal.returns
returns c = needed_law c.laws_below.ensures
