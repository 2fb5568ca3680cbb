use Rattle.std.proofs.Common.{◌≡◌, ◌<◌, ◌+◌, ◌-◌, ◌/◌, drop}
use Rattle.std.proofs.Math.ListN.{set}
use Rattle.flu_mail.proofs.OrderLemmas.{ArePlayedBut}
use Rattle.flu_mail.proofs.order.play_up.Given as goal

abbrev pub invariant-loop-v : goal.invariant-loop-v
invariant-loop-v l = record {
  above : 0 < l.v;
  below : l.v < l.size + l.size;
  played : ArePlayedBut l.size (l.v / 2) l.nodes;
  keys : drop l.size l.nodes ≡ set (drop l.size l.fn.nodes) l.place l.fn.key;
}

abbrev pub decreases-loop-v : goal.decreases-loop-v
decreases-loop-v l = l.v - 1
