use Rattle.flu_deps.specs.Checking.{program_of}
use Rattle.flu_deps.specs.Validated.{plan_of}
use Rattle.flu_node_run.proofs.Assembled.{is_partial}
use Rattle.flu_node_run.proofs.writing.partial_of.Goals as goal

pub returns-in-Ok-text_of_partial-clause-text : goal.returns-in-Ok-text_of_partial-clause-text
returns-in-Ok-text_of_partial-clause-text g c =
    is_partial (program_of c.args.c.now) (plan_of c.args.v.now).nodes c.args.w _ c.in-Ok.streams _ _ c.in-Ok.ensures.good c.in-Ok.ensures.lists
    c.in-Ok.ensures.read_out c.in-Ok-text_of_partial.ensures
