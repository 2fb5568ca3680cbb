use Rattle.std.proofs.Common.{List, subst}
use Rattle.std.specs.Prelude.{OnOk}
use Rattle.std.specs.List.{list_any}
use Rattle.flu_model.specs.declared.jobs.Action.{Action}
use Rattle.flu_fork.specs.Gathering.{GrowsBy, is_target}
use Rattle.flu_fork.proofs.gathering.add_targets.Goals as goal

pub returns : goal.returns
returns c =
    subst (λ (all : List Action). OnOk c.targets_of_actions.result (GrowsBy c.args.set.now c.targets_of_actions.new.set
    (λ d. list_any (λ (a : Action). is_target c.args.mixed c.args.t.key d a.act) all)))
    c.actions_of.ensures c.targets_of_actions.ensures
