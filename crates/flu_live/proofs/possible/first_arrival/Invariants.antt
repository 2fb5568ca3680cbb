use Rattle.std.proofs.Common.{◌≡◌, [], map}
use Rattle.std.specs.List.{range_with_len}
use Rattle.flu_model.specs.Itags.{count_of_itags}
use Rattle.flu_fork.specs.Lots.{job}
use Rattle.flu_live.specs.Possible.{arrival, enabled_among}
use Rattle.flu_live.proofs.possible.first_arrival.Given as goal

abbrev pub invariant-loop-i : goal.invariant-loop-i
invariant-loop-i l = (l.i-end ≡ count_of_itags (job l.case)) × (enabled_among l.net (map arrival (range_with_len 0 l.i)) ≡ [])
