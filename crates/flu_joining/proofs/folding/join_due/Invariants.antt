use Rattle.std.proofs.Common.{◌≡◌, ◌++◌, length, take, drop}
use Rattle.flu_contribution.specs.Parts.{combined_of, program_of}
use Rattle.flu_contribution.specs.Sending.{with_due, without_due}
use Rattle.flu_joining.specs.Parts.{waiting_in_each}
use Rattle.flu_joining.proofs.folding.join_due.Given as goal

abbrev pub invariant-loop-i : goal.invariant-loop-i
invariant-loop-i l = record {
  length : length l.queues.items ≡ length l.fn.queues.items;
  combined : with_due l.y (combined_of l.fold) (waiting_in_each (drop l.i l.queues.items))
      ≡ with_due l.y (combined_of l.fn.fold) (waiting_in_each l.fn.queues.items);
  queues : waiting_in_each (take l.i l.queues.items) ++ without_due l.y (waiting_in_each (drop l.i l.queues.items))
      ≡ without_due l.y (waiting_in_each l.fn.queues.items);
  job : program_of l.fold ≡ program_of l.fn.fold;
}
