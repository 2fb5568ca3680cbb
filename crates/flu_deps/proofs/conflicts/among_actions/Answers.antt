use Rattle.flu_deps.specs.Conflicts.{conflicts_on}
use Rattle.flu_deps.proofs.BestLemmas.{actions_turn}
use Rattle.flu_deps.proofs.conflicts.among_actions.Goals as goal

pub loop-action-preserved : goal.loop-action-preserved
loop-action-preserved c =
    actions_turn (conflicts_on c.args.p.now c.args.pair.a c.args.pair.b) c.args.key c.args.actions.now c.loop-action.action-index c.action-item.result
    c.loop-action.best _ _
    c.loop-action-test.true c.action-item.is c.among_action-best.ensures c.loop-action.invariant
