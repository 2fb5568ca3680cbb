use Rattle.flu_words.specs.Words.{plain_options}
use Rattle.flu_top.proofs.Checkpoints.{resumed_name}
use Rattle.flu_top.proofs.openings.same_name.Goals as goal

pub returns-in-None-clause-found : goal.returns-in-None-clause-found
returns-in-None-clause-found c = resumed_name c.source_with-in-None.result c.args.program.now (plain_options c.args.options)
    (c.source_with.ensures.none c.in-None.is) c.source_with-in-None.ensures.found
