use Rattle.flu_cells.specs.Holding.{held}
use Rattle.flu_handover.proofs.Filled.{savable_by_cells}
use Rattle.flu_handover.proofs.sending.line_of.Goals as goal

pub returns-clause-sendable : goal.returns-clause-sendable
returns-clause-sendable c sorts tags =
    record { cells = savable_by_cells c.args.p.now.families (held c.args.k.now.cells) sorts c.in_ok-cells.ensures.width; tags = tags }
