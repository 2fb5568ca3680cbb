use Rattle.flu_deps.proofs.VisitLemmas.{has_is}
use Rattle.flu_deps.proofs.visits.has.Goals as goal

pub returns : goal.returns
returns c = has_is c.args.word c.args.n
