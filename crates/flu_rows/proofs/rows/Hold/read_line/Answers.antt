use Rattle.std.proofs.Common.{◌++◌, inr}
use Rattle.csv.specs.Records.{fields_of}
use Rattle.flu_rows.proofs.StepLemmas.{at_run, at_end, at_front_run}
use Rattle.flu_rows.proofs.rows.Hold.read_line.Goals as goal

pub returns-then-found-clause-told : goal.returns-then-found-clause-told
returns-then-found-clause-told g c =
    let gives = rw c.if-found.true at c.in-Ok.ensures in
    let n = c.args.self.now.lines in
    rw c.step_of_row.ensures.value (at_run c.args.form.now c.args.file.now (g.F.Files.left c.args.files.now) n c.step_of_row.new.lines c.args.self.now.run c.next.new.self
    c.args.self.now.held (fields_of c.next.new.row) gives c.step_of_row.ensures.counts)

pub returns-in-End-clause-told : goal.returns-in-End-clause-told
returns-in-End-clause-told g c =
    let none = rw c.if-found.false at c.in-Ok.ensures in
    let found = rw c.in-End.is at c.in_ok-found.ensures.found in
    let out = c.in_ok-found.ensures.last (inr c.in-End.is) in
    rw (none.0, none.1) (at_end c.args.form.now c.args.file.now (g.F.Files.left c.args.files.now)
    (g.F.Files.left c.fill.new.files) c.args.self.now.lines c.args.self.now.held c.fill.new.self c.in_ok-found.ensures.bytes found out)

pub returns-in-Some-clause-told : goal.returns-in-Some-clause-told
returns-in-Some-clause-told g c =
    let none = rw c.if-found.false at c.in-Ok.ensures in
    let new = c.take_row.new.self in
    at_front_run c.args.form.now c.args.file.now (g.F.Files.left c.args.files.now) c.args.self.now.lines new.lines c.args.self.now.run c.args.self.now.held
    (new.run ++ new.held) c.take_row.result none.0 c.take_row.ensures.told
