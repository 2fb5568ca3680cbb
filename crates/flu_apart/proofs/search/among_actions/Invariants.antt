use Rattle.std.proofs.Common.{◌≡◌, drop}
use Rattle.flu_deps.specs.LoopNamed.{actions_cells}
use Rattle.flu_apart.specs.LoopSearch.{best_among}
use Rattle.flu_apart.specs.Subtrees.{job, nodes, node}
use Rattle.flu_apart.proofs.search.among_actions.Given as goal

abbrev pub invariant-loop-action : goal.invariant-loop-action
invariant-loop-action l =
    best_among (job l.s) (nodes l.s) (node l.s) l.best (actions_cells l.key (drop l.action-index l.actions))
    ≡ best_among (job l.s) (nodes l.s) (node l.s) l.fn.best (actions_cells l.key l.actions)
