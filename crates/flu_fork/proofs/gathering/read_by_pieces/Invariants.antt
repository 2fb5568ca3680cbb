use Rattle.std.proofs.Common.{◌≡◌, take}
use Rattle.std.specs.Prelude.{◌&&◌, ◌||◌, not}
use Rattle.std.specs.List.{list_any}
use Rattle.flu_model.specs.declared.events.Cell.{Cell}
use Rattle.flu_model.specs.Modes.{piece_reads}
use Rattle.flu_cells.specs.Sets.{is_in, is_in_but}
use Rattle.flu_fork.proofs.gathering.read_by_pieces.Given as goal

abbrev pub invariant-loop-piece : goal.invariant-loop-piece
invariant-loop-piece l =
    (c : Cell) → is_in_but l.unless l.set c
    ≡ (is_in_but l.unless l.fn.set c || (not (is_in l.unless c) && list_any (piece_reads l.key c) (take l.piece-index l.pieces)))
