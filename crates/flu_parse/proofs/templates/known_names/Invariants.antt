use Rattle.std.proofs.Common.{◌≡◌, drop}
use Rattle.flu_parse.specs.Faults.{each}
use Rattle.flu_parse.specs.Naming.{naming}
use Rattle.flu_parse.specs.Templates.{known_name, known_names}
use Rattle.flu_parse.proofs.templates.known_names.Given as goal

abbrev pub invariant-loop-piece : goal.invariant-loop-piece
invariant-loop-piece l =
    each (λ done q. known_name l.text (naming l.names) l.place q) tt (drop l.piece-index l.pieces) ≡ known_names l.text (naming l.names) l.place l.pieces
