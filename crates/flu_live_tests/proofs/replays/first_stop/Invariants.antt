use Rattle.std.proofs.Common.{◌≡◌}
use Rattle.flu_live_tests.proofs.replays.first_stop.Given as goal

abbrev pub invariant-loop-piece : goal.invariant-loop-piece
invariant-loop-piece l = (l.case ≡ l.net.case) × (l.net.case ≡ l.fn.net.case)
