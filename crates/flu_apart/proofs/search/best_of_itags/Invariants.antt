use Rattle.std.proofs.Common.{◌≡◌}
use Rattle.flu_apart.specs.LoopSearch.{best_upto}
use Rattle.flu_apart.specs.Subtrees.{job, nodes, node}
use Rattle.flu_apart.proofs.search.best_of_itags.Given as goal

abbrev pub invariant-loop-i : goal.invariant-loop-i
invariant-loop-i l = l.best ≡ best_upto (job l.s) (nodes l.s) (node l.s) l.c l.fn.best l.i
