use Rattle.std.proofs.Common.{◌≡◌, [], length}
use Rattle.std.specs.List.{flat_map, range_with_len}
use Rattle.flu_fork.specs.Lots.{nodes}
use Rattle.flu_live.specs.Possible.{enabled_among, steps_of}
use Rattle.flu_live.proofs.possible.first_doing.Given as goal

abbrev pub invariant-loop-w : goal.invariant-loop-w
invariant-loop-w l = (l.w-end ≡ length (nodes l.case)) × (enabled_among l.net (flat_map steps_of (range_with_len 0 l.w)) ≡ [])
