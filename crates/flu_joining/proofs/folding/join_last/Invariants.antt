use Rattle.std.proofs.Common.{◌≡◌, length, drop}
use Rattle.flu_contribution.specs.Parts.{combined_of}
use Rattle.flu_contribution.specs.Sending.{with_last}
use Rattle.flu_joining.specs.Parts.{waiting_in_each}
use Rattle.flu_joining.proofs.folding.join_last.Given as goal

abbrev pub invariant-loop-i : goal.invariant-loop-i
invariant-loop-i l = record {
  length : length l.queues.items ≡ length l.fn.queues.items;
  combined : with_last (combined_of l.fold) (waiting_in_each (drop l.i l.queues.items)) ≡ with_last (combined_of l.fn.fold) (waiting_in_each l.fn.queues.items);
}
