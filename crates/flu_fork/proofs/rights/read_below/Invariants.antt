use Rattle.std.proofs.Common.{◌≡◌}
use Rattle.std.specs.Prelude.{◌&&◌, not}
use Rattle.std.specs.List.{list_any, range_with_len}
use Rattle.flu_model.specs.declared.events.Cell.{Cell}
use Rattle.flu_deps.specs.Validated.{plan_of}
use Rattle.flu_cells.specs.Sets.{is_in, is_in_but}
use Rattle.flu_fork.specs.Classes.{below}
use Rattle.flu_fork.specs.Gathering.{reads_by}
use Rattle.flu_fork.proofs.rights.read_below.Given as goal

abbrev pub invariant-loop-i : goal.invariant-loop-i
invariant-loop-i l =
    (c : Cell) → is_in_but l.written l.set c
    ≡ list_any (λ i. below l.p (plan_of l.v).nodes l.w i && (not (is_in l.written c) && reads_by l.p i c)) (range_with_len 0 l.i)
