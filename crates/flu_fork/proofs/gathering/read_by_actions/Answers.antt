use Rattle.flu_model.specs.Modes.{action_reads}
use Rattle.flu_cells.specs.Sets.{is_in}
use Rattle.flu_fork.proofs.GatheringLemmas.{unless_turn}
use Rattle.flu_fork.proofs.gathering.read_by_actions.Goals as goal

pub loop-action-preserved : goal.loop-action-preserved
loop-action-preserved c = λ d.
    unless_turn (action_reads c.args.key d) c.args.actions.now c.loop-action.action-index c.action-item.result _ _ _ (is_in c.args.unless.now d)
    c.loop-action-test.true c.action-item.is (c.loop-action.invariant d) (c.in_ok-read_by_action.ensures d)
