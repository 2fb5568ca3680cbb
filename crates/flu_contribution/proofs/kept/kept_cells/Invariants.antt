use Rattle.flu_cells.specs.Holding.{held}
use Rattle.flu_contribution.specs.Parts.{HasKept}
use Rattle.flu_contribution.proofs.kept.kept_cells.Given as goal

abbrev pub invariant-loop-family : goal.invariant-loop-family
invariant-loop-family l = HasKept l.s (held l.state) l.kept l.family
