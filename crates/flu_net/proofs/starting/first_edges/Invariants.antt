use Rattle.std.proofs.Common.{◌≡◌, length}
use Rattle.flu_fork.specs.Lots.{nodes}
use Rattle.flu_net.specs.Starting.{AreHome}
use Rattle.flu_net.proofs.starting.first_edges.Given as goal

abbrev pub invariant-loop-v : goal.invariant-loop-v
invariant-loop-v l = (l._v-end ≡ length (nodes l.case)) × AreHome l._v l.edges.items
