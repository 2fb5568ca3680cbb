use Rattle.flu_deps.proofs.VisitLemmas.{marked_follows}
use Rattle.flu_deps.proofs.visits.Visit.touch.Goals as goal

pub returns-then-self-clause-follows : goal.returns-then-self-clause-follows
returns-then-self-clause-follows c = marked_follows c.args.self.now c.mark.new.self c.if-self.true c.mark.ensures.kept
