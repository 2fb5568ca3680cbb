use Rattle.flu_model.specs.declared.jobs.Action.{Action}
use Rattle.flu_fork.specs.Gathering.{is_target}
use Rattle.flu_fork.proofs.GatheringLemmas.{some_turn}
use Rattle.flu_fork.proofs.gathering.targets_of_actions.Goals as goal

pub loop-action-preserved : goal.loop-action-preserved
loop-action-preserved c = λ d.
    some_turn (λ (a : Action). is_target c.args.mixed c.args.key d a.act) c.args.actions.now c.loop-action.action-index c.action-item.result _ _ _
    c.loop-action-test.true c.action-item.is (c.loop-action.invariant d) (c.in_ok-targets_of_act.ensures d)
