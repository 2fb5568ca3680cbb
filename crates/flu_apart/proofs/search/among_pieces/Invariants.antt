use Rattle.std.proofs.Common.{◌≡◌, drop}
use Rattle.flu_deps.specs.LoopNamed.{pieces_cells}
use Rattle.flu_apart.specs.LoopSearch.{best_among}
use Rattle.flu_apart.specs.Subtrees.{job, nodes, node}
use Rattle.flu_apart.proofs.search.among_pieces.Given as goal

abbrev pub invariant-loop-piece : goal.invariant-loop-piece
invariant-loop-piece l =
    best_among (job l.s) (nodes l.s) (node l.s) l.best (pieces_cells l.key (drop l.piece-index l.pieces))
    ≡ best_among (job l.s) (nodes l.s) (node l.s) l.fn.best (pieces_cells l.key l.pieces)
