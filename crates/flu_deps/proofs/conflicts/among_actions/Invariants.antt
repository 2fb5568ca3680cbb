use Rattle.std.proofs.Common.{◌≡◌, drop}
use Rattle.flu_deps.specs.Conflicts.{conflicts_on}
use Rattle.flu_deps.specs.LoopNamed.{actions_cells, best_among}
use Rattle.flu_deps.proofs.conflicts.among_actions.Given as goal

abbrev pub invariant-loop-action : goal.invariant-loop-action
invariant-loop-action l =
    best_among (conflicts_on l.p l.pair.a l.pair.b) l.best (actions_cells l.key (drop l.action-index l.actions)) ≡ best_among
    (conflicts_on l.p l.pair.a l.pair.b) l.fn.best (actions_cells l.key l.actions)
