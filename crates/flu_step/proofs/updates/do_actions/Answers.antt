use Rattle.std.proofs.Common.{Bool, ap, ◌∙◌}
use Rattle.flu_model.specs.declared.jobs.Action.{Action}
use Rattle.flu_model.specs.Expressions.{item_of}
use Rattle.flu_model.specs.Updates.{effect_of_actions}
use Rattle.flu_lemmas.proofs.Tests.{all_at}
use Rattle.flu_cells.specs.Holding.{held}
use Rattle.flu_step.specs.Targets.{has_target_in_range}
use Rattle.flu_step.specs.Shown.{showing}
use Rattle.flu_step.proofs.TargetLemmas.{actions_turn}
use Rattle.flu_step.proofs.updates.do_actions.Goals as goal

pub do_action-requires : goal.do_action-requires
do_action-requires c =
    let in_range : Action → Bool = λ a. has_target_in_range a.act c.args.at.now.tag.key (item_of c.args.at.now.event.now) in
    ap in_range c.action-item.is ∙ all_at in_range c.args.actions.now c.loop-action.action-index c.action-item.result c.requires c.loop-action-test.true

pub loop-action-preserved : goal.loop-action-preserved
loop-action-preserved c =
    actions_turn (showing c.args.at.now.show) c.args.at.now.families.now c.args.actions.now (held c.loop-action.s) (held c.do_action.new.s)
    c.args.at.now.event.now c.args.at.now.tag c.loop-action.action-index c.action-item.result c.loop-action.outs c.do_action.new.outs c.args.outs.now
    (effect_of_actions (showing c.args.at.now.show) c.args.at.now.families.now c.args.actions.now
    (held c.args.s.now) c.args.at.now.event.now c.args.at.now.tag.key)
    c.loop-action-test.true c.action-item.is c.in_ok-do_action.ensures.cells c.in_ok-do_action.ensures.outputs c.loop-action.invariant
