use Rattle.std.proofs.Common.{◌≡◌, ◌+◌, length, drop}
use Rattle.flu_model.specs.Templates.{written_template}
use Rattle.flu_rules.proofs.templates.is_short.Given as goal

abbrev pub invariant-loop-piece : goal.invariant-loop-piece
invariant-loop-piece l =
    256 + length (written_template l.families (drop l.piece-index l.pieces)) ≡ l.left + length (written_template l.families l.pieces)
