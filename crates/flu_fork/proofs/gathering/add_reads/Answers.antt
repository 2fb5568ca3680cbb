use Rattle.std.proofs.Common.{List, subst}
use Rattle.std.specs.Prelude.{OnOk}
use Rattle.std.specs.List.{list_any}
use Rattle.flu_model.specs.declared.jobs.Action.{Action}
use Rattle.flu_model.specs.Modes.{action_reads}
use Rattle.flu_fork.specs.Gathering.{GrowsBut}
use Rattle.flu_fork.proofs.gathering.add_reads.Goals as goal

pub returns : goal.returns
returns c =
    subst (λ (all : List Action). OnOk c.read_by_actions.result (GrowsBut c.args.unless.now c.args.set.now c.read_by_actions.new.set
    (λ d. list_any (action_reads c.args.t.key d) all)))
    c.actions_of.ensures c.read_by_actions.ensures
