use Rattle.flu_cells.specs.Holding.{held}
use Rattle.flu_contribution.proofs.KeptLemmas.{Grown}
use Rattle.flu_contribution.proofs.kept.add_family.Given as goal

abbrev pub invariant-loop-key : goal.invariant-loop-key
invariant-loop-key l = Grown l.s (held l.state) l.kept l.family l.key-items l.key-index
