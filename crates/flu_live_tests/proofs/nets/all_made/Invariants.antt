use Rattle.std.proofs.Common.{◌≡◌}
use Rattle.flu_live_tests.proofs.nets.all_made.Given as goal

abbrev pub invariant-loop-step : goal.invariant-loop-step
invariant-loop-step l = (l.case ≡ l.net.case) × (l.net.case ≡ l.fn.net.case)
