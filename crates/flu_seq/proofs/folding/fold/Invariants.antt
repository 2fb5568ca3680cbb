use Rattle.std.proofs.Common.{◌≡◌}
use Rattle.flu_cells.specs.Holding.{held}
use Rattle.flu_seq.specs.LoopHeads.{left_in}
use Rattle.flu_seq.proofs.Folds.{FoldsTo}
use Rattle.flu_seq.proofs.folding.fold.Given as goal

abbrev pub invariant-loop-outs : goal.invariant-loop-outs
invariant-loop-outs l = (l.coming.streams.now ≡ l.s) × FoldsTo l.p (held l.fn.opening) l.coming (held l.state) l.outs

abbrev pub decreases-loop-outs : goal.decreases-loop-outs
decreases-loop-outs l = left_in l.coming
