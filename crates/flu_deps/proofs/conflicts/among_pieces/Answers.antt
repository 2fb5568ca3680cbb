use Rattle.flu_deps.specs.Conflicts.{conflicts_on}
use Rattle.flu_deps.proofs.BestLemmas.{pieces_turn}
use Rattle.flu_deps.proofs.conflicts.among_pieces.Goals as goal

pub loop-piece-preserved : goal.loop-piece-preserved
loop-piece-preserved c =
    pieces_turn (conflicts_on c.args.p.now c.args.pair.a c.args.pair.b) c.args.key c.args.pieces.now c.loop-piece.piece-index c.piece-item.result
    c.loop-piece.best _ _
    c.loop-piece-test.true c.piece-item.is c.among_piece-best.ensures c.loop-piece.invariant
