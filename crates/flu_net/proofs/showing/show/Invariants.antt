use Rattle.std.proofs.Common.{◌≡◌, ◌++◌, length, map, take, drop}
use Rattle.flu_net.specs.Effects.{seeing}
use Rattle.flu_net.proofs.showing.show.Given as goal

abbrev pub invariant-loop-w : goal.invariant-loop-w
invariant-loop-w l =
    (l.w-end ≡ length l.fn.workers.items)
    × (l.workers.items ≡ map (seeing l.i.0 l.count) (take l.w l.fn.workers.items) ++ drop l.w l.fn.workers.items)
