use Rattle.std.proofs.Common.{◌≡◌, length}
use Rattle.flu_fork.specs.Lots.{nodes}
use Rattle.flu_net.specs.Starting.{AreNew}
use Rattle.flu_net.proofs.starting.first_workers.Given as goal

abbrev pub invariant-loop-w : goal.invariant-loop-w
invariant-loop-w l = (l.w-end ≡ length (nodes l.case)) × AreNew l.case l.w l.workers.items
