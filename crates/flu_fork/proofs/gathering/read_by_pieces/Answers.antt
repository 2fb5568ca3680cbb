use Rattle.flu_model.specs.Modes.{piece_reads}
use Rattle.flu_cells.specs.Sets.{is_in}
use Rattle.flu_fork.proofs.GatheringLemmas.{unless_turn}
use Rattle.flu_fork.proofs.gathering.read_by_pieces.Goals as goal

pub loop-piece-preserved : goal.loop-piece-preserved
loop-piece-preserved c = λ d.
    unless_turn (piece_reads c.args.key d) c.args.pieces.now c.loop-piece.piece-index c.piece-item.result _ _ _ (is_in c.args.unless.now d)
    c.loop-piece-test.true c.piece-item.is (c.loop-piece.invariant d) (c.in_ok-read_by_piece.ensures d)
