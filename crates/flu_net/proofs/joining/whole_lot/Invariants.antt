use Rattle.std.proofs.Common.{◌≡◌, ◌≤◌, length, take}
use Rattle.flu_fork.specs.Lots.{nodes}
use Rattle.flu_net.specs.Ending.{AreBrought}
use Rattle.flu_net.proofs.joining.whole_lot.Given as goal

abbrev pub invariant-loop-w : goal.invariant-loop-w
invariant-loop-w l =
    (1 ≤ l.w) × (l.w ≤ length (nodes l.case)) × (l.workers.items ≡ take l.w l.fn.workers.items) × AreBrought l.case l.w l.fn.workers.items l.edges.items
