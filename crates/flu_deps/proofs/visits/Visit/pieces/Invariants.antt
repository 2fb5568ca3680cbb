use Rattle.std.proofs.Common.{take}
use Rattle.std.specs.List.{list_all}
use Rattle.flu_deps.specs.LoopVisits.{piece_all}
use Rattle.flu_deps.specs.LoopFollows.{Follows, Tells}
use Rattle.flu_deps.proofs.visits.Visit.pieces.Given as goal

abbrev pub invariant-loop-piece : goal.invariant-loop-piece
invariant-loop-piece l = (Follows l.fn.self l.self) × Tells l.self (λ test. list_all (piece_all test) (take l.piece-index l.pieces))
