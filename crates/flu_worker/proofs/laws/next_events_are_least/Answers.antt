use Rattle.flu_worker.proofs.Nexts.{least_one, leaves_take, leaves_take_nothing, others_take, targets_first, nothing_without}
use Rattle.flu_worker.proofs.laws.next_events_are_least.Goals as goal

pub returns : goal.returns
returns c = record {
  leaf = leaves_take c.laws_below.ensures;
  none = leaves_take_nothing c.laws_below.ensures;
  one = least_one;
  inner = others_take;
  first = targets_first;
  whole = nothing_without;
}
