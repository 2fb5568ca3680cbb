use Rattle.flu_apart.specs.Subtrees.{job, nodes, node}
use Rattle.flu_apart.proofs.BestLemmas.{actions_turn}
use Rattle.flu_apart.proofs.search.among_actions.Goals as goal

pub loop-action-preserved : goal.loop-action-preserved
loop-action-preserved c =
    actions_turn (job c.args.s.now) (nodes c.args.s.now) (node c.args.s.now) c.args.key c.args.actions.now c.loop-action.action-index c.action-item.result
    c.loop-action.best _ _
    c.loop-action-test.true c.action-item.is c.among_action-best.ensures c.loop-action.invariant
