use Rattle.flu_deps.proofs.VisitLemmas.{in_common}
use Rattle.flu_deps.proofs.clashes.meet.Goals as goal

pub returns : goal.returns
returns c = λ n one other. in_common c.args.x c.args.y n one other
