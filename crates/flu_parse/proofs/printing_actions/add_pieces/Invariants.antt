use Rattle.std.proofs.Common.{◌≡◌, ◌++◌, take}
use Rattle.std.specs.String.{string_bytes}
use Rattle.flu_model.specs.Templates.{written_template}
use Rattle.flu_parse.proofs.printing_actions.add_pieces.Given as goal

abbrev pub invariant-loop-piece : goal.invariant-loop-piece
invariant-loop-piece l = string_bytes l.text ≡ string_bytes l.fn.text ++ written_template l.families (take l.piece-index l.pieces)
