use Rattle.std.proofs.Common.{◌≡◌, ◌<◌, ◌/◌, ◌^◌, ◌++◌, length}
use Rattle.std.specs.List.{All}
use Rattle.flu_streams.specs.Clocks.{items_of_ticks}
use Rattle.flu_streams.proofs.clocks.items_of_ticks.Given as goal

abbrev pub invariant-loop-time : goal.invariant-loop-time
invariant-loop-time l = (l.items.items ++ items_of_ticks l.timing l.itag.0 l.left ≡ items_of_ticks l.timing l.itag.0 l.fn.ticks)
    × All (λ time. time < 2 ^ 63 / l.timing.scale) l.left

abbrev pub decreases-loop-time : goal.decreases-loop-time
decreases-loop-time l = length l.left
