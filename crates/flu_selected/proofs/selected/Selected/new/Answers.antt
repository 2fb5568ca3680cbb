use Rattle.std.proofs.Common.{ap}
use Rattle.flu_selected.specs.Selecting.{left_beside}
use Rattle.flu_selected.proofs.selected.Selected.new.Goals as goal

pub returns-clause-left : goal.returns-clause-left
returns-clause-left g c = λ names is. ap (left_beside (g.F.Files.left c.args.lent.files.now)) is
