use Rattle.std.proofs.Common.{◌≡◌}
use Rattle.flu_live_tests.proofs.nets.run_out.Given as goal

abbrev pub invariant-loop-turn : goal.invariant-loop-turn
invariant-loop-turn l = (l.case ≡ l.net.case) × (l.net.case ≡ l.fn.net.case)
