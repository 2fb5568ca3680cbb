use Rattle.flu_deps.proofs.VisitLemmas.{with_there, with_kept}
use Rattle.flu_deps.proofs.visits.with.Goals as goal

pub returns-clause-there : goal.returns-clause-there
returns-clause-there c = with_there c.args.word c.args.n

pub returns-clause-kept : goal.returns-clause-kept
returns-clause-kept c = λ k h. with_kept c.args.word c.args.n k h
