use Rattle.std.proofs.Common.{◌≡◌, drop}
use Rattle.flu_deps.specs.Conflicts.{conflicts_on}
use Rattle.flu_deps.specs.LoopNamed.{pieces_cells, best_among}
use Rattle.flu_deps.proofs.conflicts.among_pieces.Given as goal

abbrev pub invariant-loop-piece : goal.invariant-loop-piece
invariant-loop-piece l =
    best_among (conflicts_on l.p l.pair.a l.pair.b) l.best (pieces_cells l.key (drop l.piece-index l.pieces)) ≡ best_among
    (conflicts_on l.p l.pair.a l.pair.b) l.fn.best (pieces_cells l.key l.pieces)
