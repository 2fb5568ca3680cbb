use Rattle.std.proofs.Common.{◌≡◌, ◌∙◌, arith}
use Rattle.csv.specs.Records.{fields_of}
use Rattle.flu_rows.proofs.StepLemmas.{at_limit, at_line, at_held_row}
use Rattle.flu_rows.proofs.rows.Hold.read_held.Goals as goal

pub returns-in-Some-clause-told : goal.returns-in-Some-clause-told
returns-in-Some-clause-told c = λ coming last. c.take_row.ensures.told coming

pub returns-then-again-clause-told : goal.returns-then-again-clause-told
returns-then-again-clause-told c =
    let gives = rw c.if-again.true at c.in-Ok-next.ensures in
    let n = c.args.self.now.lines in
    λ coming last. c.in-Ok.ensures.alike c.args.form.now n coming ∙ rw c.step_of_row.ensures.value (at_held_row c.args.form.now n c.step_of_row.new.lines c.in-Ok.run' c.next.new.self
    c.take.new.held coming (fields_of c.next.new.row) gives c.step_of_row.ensures.counts)

pub returns-then-self-clause-told : goal.returns-then-self-clause-told
returns-then-self-clause-told c = λ coming last.
    at_limit c.args.form.now c.args.self.now.lines c.args.self.now.held coming c.args.found c.requires.found c.requires.some last (omega arith)

pub returns-clause-told : goal.returns-clause-told
returns-clause-told c = λ coming last.
    let none = rw c.if-again.false at c.in-Ok-next.ensures in
    let same : c.take.new.held ≡ c.args.self.now.held = c.in-Ok.ensures.none none.0 in
    let n = c.args.self.now.lines in
    let begins = c.in-Ok-take_line.ensures.line coming last in
    rw (c.step_of.ensures.value, none.1) (at_line c.args.form.now n c.args.self.now.held c.take_line.new.held coming c.in-Ok-take_line.line (omega arith) (rw same at begins))
