use Rattle.std.proofs.Common.{◌≡◌, map}
use Rattle.std.specs.List.{filter, range_with_len}
use Rattle.flu_model.specs.Owners as owners
use Rattle.flu_deps.specs.Validated.{plan_of}
use Rattle.flu_tables.specs.Lists.{itag}
use Rattle.flu_tables.proofs.shares.itags_above.Given as goal

abbrev pub invariant-loop-i : goal.invariant-loop-i
invariant-loop-i l = l.itags.items ≡ filter (owners.ancestors_own l.p (plan_of l.v).nodes l.w) (map itag (range_with_len 0 l.i))
