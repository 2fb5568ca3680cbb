use Rattle.std.proofs.Common.{◌≡◌, None}
use Rattle.flu_apart.specs.LoopSearch.{best_among, cells_upto}
use Rattle.flu_apart.specs.Subtrees.{job, nodes, node}
use Rattle.flu_apart.proofs.search.first_of.Given as goal

abbrev pub invariant-loop-i : goal.invariant-loop-i
invariant-loop-i l = l.best ≡ best_among (job l.s) (nodes l.s) (node l.s) None (cells_upto (job l.s) l.i)
