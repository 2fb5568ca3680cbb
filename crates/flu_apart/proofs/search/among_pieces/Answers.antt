use Rattle.flu_apart.specs.Subtrees.{job, nodes, node}
use Rattle.flu_apart.proofs.BestLemmas.{pieces_turn}
use Rattle.flu_apart.proofs.search.among_pieces.Goals as goal

pub loop-piece-preserved : goal.loop-piece-preserved
loop-piece-preserved c =
    pieces_turn (job c.args.s.now) (nodes c.args.s.now) (node c.args.s.now) c.args.key c.args.pieces.now c.loop-piece.piece-index c.piece-item.result
    c.loop-piece.best _ _
    c.loop-piece-test.true c.piece-item.is c.among_piece-best.ensures c.loop-piece.invariant
