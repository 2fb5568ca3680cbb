use Rattle.flu_model.specs.Listed.{listed}
use Rattle.flu_cells.specs.Holding.{held}
use Rattle.flu_seq.proofs.Kept.{sorts_kept}
use Rattle.flu_seq.proofs.engines.FoldEngineEngine.batch.Goals as goal

pub returns-clause-sorts : goal.returns-clause-sorts
returns-clause-sorts g c =
    sorts_kept c.args.self.now.program (held c.args.opening)
    (listed c.args.s.now) c.fold.result c.fold.ensures.state c.updates_are_changes.ensures.fold c.requires.sorts
