use Rattle.std.proofs.Common.{◌≡◌, ◌<◌, ℕ, [], length}
use Rattle.std.specs.Prelude.{slice_index, slice_index_or}
use Rattle.flu_model.specs.Itags.{count_of_itags}
use Rattle.flu_model.specs.Listed.{listed}
use Rattle.flu_fork.specs.Lots.{job}
use Rattle.flu_net.proofs.finishing.all_seen.Given as goal

abbrev pub invariant-loop-i : goal.invariant-loop-i
invariant-loop-i l =
    (l.i-end ≡ count_of_itags (job l.case))
    × ((j : ℕ) → j < l.i → slice_index l.seen j ≡ length (slice_index_or (listed l.case.streams) j []))
