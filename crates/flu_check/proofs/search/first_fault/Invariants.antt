use Rattle.std.proofs.Common.{ℕ, ◌<◌}
use Rattle.std.specs.Prelude.{IfSome}
use Rattle.flu_check.specs.LoopFound.{tag_at, IsFound, PassesTag}
use Rattle.flu_check.proofs.search.first_fault.Given as goal

abbrev pub invariant-loop-i : goal.invariant-loop-i
invariant-loop-i l = (IfSome l.found (IsFound l.p)) × ((k : ℕ) → k < l.i → PassesTag l.p (tag_at l.p k) l.found)
