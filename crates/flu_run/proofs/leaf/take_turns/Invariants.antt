use Rattle.std.proofs.Common.{◌≡◌}
use Rattle.flu_run.specs.EndNotes.{end_note, IsSameEnd}
use Rattle.flu_run.specs.Seeing.{Sees}
use Rattle.flu_run.specs.Ties.{Hangs, Tells}
use Rattle.flu_run.proofs.leaf.take_turns.Given as goal

abbrev pub invariant-loop : goal.invariant-loop
invariant-loop g l = record {
  can_next : (goal.iterator-loop g).can_next l.iterator';
  is_finite : (goal.iterator-loop g).is_finite l.iterator';
  same_case : l.worker.case ≡ l.fn.worker.case;
  same_node : l.worker.node ≡ l.fn.worker.node;
  same_end : IsSameEnd (end_note l.fn.end) (end_note l.end);
  hangs : Hangs l.worker (end_note l.end);
  tells : Tells l.worker l.outs;
  sees : Sees l.worker l.watch;
}
