use Rattle.std.proofs.Common.{◌≡◌}
use Rattle.flu_thread_tests.specs.Passing.{IsBelow}
use Rattle.flu_thread_tests.proofs.passing.passes_up.Given as goal

abbrev pub invariant-loop : goal.invariant-loop
invariant-loop g l = IsBelow l.low × (l.low.link ≡ l.fn.low.link)
