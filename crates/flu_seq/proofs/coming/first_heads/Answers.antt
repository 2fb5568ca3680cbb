use Rattle.std.proofs.Common.{◌<◌, length, arith}
use Rattle.std.specs.BinaryHeap.{heap_items}
use Rattle.flu_model.specs.Listed.{listed}
use Rattle.flu_seq.proofs.Turns.{begin_turn}
use Rattle.flu_seq.proofs.coming.first_heads.Goals as goal

pub loop-i-preserved : goal.loop-i-preserved
loop-i-preserved c =
    let lt : c.loop-i.i < length (listed c.args.s.now) = omega (arith, c.requires, c.itag_count-i-end.ensures, c.loop-i-test.true) in
    begin_turn (listed c.args.s.now) c.args.s.now.good c.loop-i.i (heap_items c.loop-i.heads)
    (heap_items c.push_next.new.heads) lt c.loop-i.invariant c.in_ok-push_next.ensures
