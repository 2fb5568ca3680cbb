use Rattle.std.proofs.Common.{take}
use Rattle.std.specs.List.{list_all}
use Rattle.flu_deps.specs.LoopVisits.{action_all}
use Rattle.flu_deps.specs.LoopFollows.{Follows, Tells}
use Rattle.flu_deps.proofs.visits.Visit.actions.Given as goal

abbrev pub invariant-loop-action : goal.invariant-loop-action
invariant-loop-action l = (Follows l.fn.self l.self) × Tells l.self (λ test. list_all (action_all test) (take l.action-index l.actions))
