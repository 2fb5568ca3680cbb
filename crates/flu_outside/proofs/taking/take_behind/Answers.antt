use Rattle.flu_outside.proofs.Takes.{taken_at}
use Rattle.flu_outside.proofs.taking.take_behind.Goals as goal

pub returns-then-is_err-clause-taken : goal.returns-then-is_err-clause-taken
returns-then-is_err-clause-taken g c =
    taken_at c.args.name.now c.in_ok-count.count c.take.new.buf (g.F.Files.left c.args.files.now) (g.F.Files.left c.take.new.self) c.in_ok-count.ensures.taken

pub returns-clause-taken : goal.returns-clause-taken
returns-clause-taken g c =
    taken_at c.args.name.now c.in_ok-count.count c.take.new.buf (g.F.Files.left c.args.files.now) (g.F.Files.left c.take.new.self) c.in_ok-count.ensures.taken
