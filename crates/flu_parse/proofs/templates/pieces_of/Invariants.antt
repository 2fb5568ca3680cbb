use Rattle.std.proofs.Common.{◌≡◌, ◌∷◌, ◌++◌, [], List, drop, Ok}
use Rattle.flu_model.specs.declared.jobs.Piece.{Piece}
use Rattle.flu_parse.specs.declared.pieces.WrittenPiece.{WrittenPiece}
use Rattle.flu_parse.specs.Faults.{each, ◌>>=◌}
use Rattle.flu_parse.specs.Naming.{naming}
use Rattle.flu_parse.specs.Templates.{piece_of, pieces_of}
use Rattle.flu_parse.proofs.templates.pieces_of.Given as goal

abbrev pub invariant-loop-piece : goal.invariant-loop-piece
invariant-loop-piece l =
    each (λ (done : List Piece) (q : WrittenPiece). piece_of l.text (naming l.names) l.under l.flushed l.place q >>= λ r. Ok (done ++ r ∷ [])) l.found.items
    (drop l.piece-index l.pieces)
    ≡ pieces_of l.text (naming l.names) l.under l.flushed l.place l.pieces
