use Rattle.std.proofs.Common.{◌≡◌, take}
use Rattle.std.specs.Prelude.{◌&&◌, ◌||◌, not}
use Rattle.std.specs.List.{list_any}
use Rattle.flu_model.specs.declared.events.Cell.{Cell}
use Rattle.flu_model.specs.Modes.{action_reads}
use Rattle.flu_cells.specs.Sets.{is_in, is_in_but}
use Rattle.flu_fork.proofs.gathering.read_by_actions.Given as goal

abbrev pub invariant-loop-action : goal.invariant-loop-action
invariant-loop-action l =
    (c : Cell) → is_in_but l.unless l.set c
    ≡ (is_in_but l.unless l.fn.set c || (not (is_in l.unless c) && list_any (action_reads l.key c) (take l.action-index l.actions)))
