use Rattle.flu_deps.specs.Checking.{program_of}
use Rattle.flu_top.proofs.Sequence.{sources_are_read}
use Rattle.flu_top.proofs.simulating.text_of.Goals as goal

pub returns-clause-read : goal.returns-clause-read
returns-clause-read g c = sources_are_read (program_of c.args.planned.checked) _ _ c.in-Ok.ensures.good c.in-Ok.ensures.read_out
