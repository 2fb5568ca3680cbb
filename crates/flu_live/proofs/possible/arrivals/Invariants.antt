use Rattle.std.proofs.Common.{◌≡◌, map}
use Rattle.std.specs.List.{range_with_len}
use Rattle.flu_live.specs.Possible.{arrival}
use Rattle.flu_live.proofs.possible.arrivals.Given as goal

abbrev pub invariant-loop-i : goal.invariant-loop-i
invariant-loop-i l = l.steps.items ≡ map arrival (range_with_len 0 l.i)
