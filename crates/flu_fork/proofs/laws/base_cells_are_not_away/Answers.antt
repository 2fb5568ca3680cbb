use Rattle.flu_fork.proofs.Cells.{not_away_law}
use Rattle.flu_fork.proofs.laws.base_cells_are_not_away.Goals as goal

pub returns : goal.returns
returns c = not_away_law
