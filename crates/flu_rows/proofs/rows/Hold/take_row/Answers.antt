use Rattle.std.proofs.Common.{arith}
use Rattle.flu_rows.proofs.StepLemmas.{at_front_limit, at_front}
use Rattle.flu_rows.proofs.rows.Hold.take_row.Goals as goal

pub returns-then-self-clause-told : goal.returns-then-self-clause-told
returns-then-self-clause-told c = λ coming.
    at_front_limit c.args.form.now c.args.self.now.lines c.args.self.now.held coming c.args.row c.args.size c.requires.found (omega arith)

pub returns-clause-told : goal.returns-clause-told
returns-clause-told c = λ coming.
    rw c.requires.none (at_front c.args.form.now c.args.self.now.lines c.args.self.now.held c.drop_front.new.self coming c.args.row c.args.size
    c.requires.found c.drop_front.ensures (omega arith))
