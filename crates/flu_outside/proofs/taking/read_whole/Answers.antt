use Rattle.flu_lemmas.proofs.Named.{taken_then}
use Rattle.flu_outside.proofs.taking.read_whole.Goals as goal

pub returns-in_err-n-clause-taken : goal.returns-in_err-n-clause-taken
returns-in_err-n-clause-taken g c =
    taken_then c.args.name.now (g.F.Files.left c.args.files.now) (g.F.Files.left c.loop-files.files)
    (g.F.Files.left c.take_behind.new.files) c.loop-files.invariant.taken c.in_err-n.ensures.taken
