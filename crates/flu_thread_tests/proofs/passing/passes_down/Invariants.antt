use Rattle.std.proofs.Common.{◌≡◌}
use Rattle.flu_thread_tests.specs.Passing.{IsFree, MayGo}
use Rattle.flu_thread_tests.proofs.passing.passes_down.Given as goal

abbrev pub invariant-loop : goal.invariant-loop
invariant-loop g l = IsFree l.up × MayGo l.up l.lot × (l.up.link ≡ l.fn.up.link)
