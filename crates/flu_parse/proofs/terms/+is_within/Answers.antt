use Rattle.flu_syntax.specs.Tree.{view}
use Rattle.flu_parse.proofs.TermLemmas.{above_none}
use Rattle.flu_parse.proofs.terms.+is_within.Goals as goal

pub returns-then-levels-eq0 : goal.returns-then-levels-eq0
returns-then-levels-eq0 t c = above_none (view c.args.written.now) c.args.levels c.if-levels-eq0.true
