use Rattle.std.proofs.Common.{◌≡◌, map}
use Rattle.std.specs.List.{range_with_len}
use Rattle.flu_deps.specs.Validated.{plan_of}
use Rattle.flu_fork.specs.Classes.{below}
use Rattle.flu_fork.proofs.rights.itags_below.Given as goal

abbrev pub invariant-loop-i : goal.invariant-loop-i
invariant-loop-i l = l.itags.items ≡ map (below l.p (plan_of l.v).nodes l.w) (range_with_len 0 l.i)
