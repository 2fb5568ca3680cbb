use Rattle.std.proofs.Common.{◌≡◌, take}
use Rattle.std.specs.Prelude.{◌||◌}
use Rattle.std.specs.List.{list_any}
use Rattle.flu_model.specs.declared.events.Cell.{Cell}
use Rattle.flu_model.specs.declared.jobs.Action.{Action}
use Rattle.flu_cells.specs.Sets.{is_in}
use Rattle.flu_fork.specs.Gathering.{is_target}
use Rattle.flu_fork.proofs.gathering.targets_of_actions.Given as goal

abbrev pub invariant-loop-action : goal.invariant-loop-action
invariant-loop-action l =
    (c : Cell) → is_in l.set c ≡ (is_in l.fn.set c || list_any (λ (a : Action). is_target l.mixed l.key c a.act) (take l.action-index l.actions))
