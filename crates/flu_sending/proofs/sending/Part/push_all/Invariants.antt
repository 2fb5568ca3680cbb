use Rattle.std.proofs.Common.{◌≡◌, ◌≤◌, ◌+◌, ◌++◌, drop}
use Rattle.flu_contribution.specs.Parts.{open_of}
use Rattle.flu_sending.specs.LoopSending.{lines_from, IsNodeOf}
use Rattle.flu_sending.proofs.sending.Part.push_all.Given as goal

abbrev pub invariant-loop-x : goal.invariant-loop-x
invariant-loop-x l = record {
  lines : l.out.items ++ lines_from l.self (open_of l.node) (drop l.x-index l.events)
      ≡ l.initial.out.items ++ lines_from l.self (open_of l.initial.node) l.events;
  its : IsNodeOf l.self l.node;
  count : (open_of l.node).count ≤ (open_of l.initial.node).count + l.x-index;
}
