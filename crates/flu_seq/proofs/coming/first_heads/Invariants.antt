use Rattle.std.specs.BinaryHeap.{heap_items}
use Rattle.flu_model.specs.Listed.{listed}
use Rattle.flu_seq.proofs.Turns.{Begun}
use Rattle.flu_seq.proofs.coming.first_heads.Given as goal

abbrev pub invariant-loop-i : goal.invariant-loop-i
invariant-loop-i l = Begun (listed l.s) l.i (heap_items l.heads)
