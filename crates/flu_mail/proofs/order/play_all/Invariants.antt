use Rattle.std.proofs.Common.{◌≡◌, ◌≤◌, ◌-◌, drop}
use Rattle.flu_mail.proofs.OrderLemmas.{ArePlayedFrom}
use Rattle.flu_mail.proofs.order.play_all.Given as goal

abbrev pub invariant-loop-v : goal.invariant-loop-v
invariant-loop-v l = record {
  within : l.v ≤ l.size;
  played : ArePlayedFrom l.size l.v l.nodes;
  keys : drop l.size l.nodes ≡ drop l.size l.fn.nodes;
}

abbrev pub decreases-loop-v : goal.decreases-loop-v
decreases-loop-v l = l.v - 1
