use Rattle.std.proofs.Common.{◌≡◌, drop}
use Rattle.std.specs.Prelude.{not, ◌&&◌}
use Rattle.flu_model.specs.Rules.{follows_plain, are_apart}
use Rattle.flu_rules.proofs.templates.are_apart.Given as goal

abbrev pub invariant-loop-piece : goal.invariant-loop-piece
invariant-loop-piece l =
    (not (l.after_plain && follows_plain (drop l.piece-index l.pieces)) && are_apart (drop l.piece-index l.pieces)) ≡ are_apart l.pieces
