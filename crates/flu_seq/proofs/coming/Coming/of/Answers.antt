use Rattle.std.specs.BinaryHeap.{heap_items}
use Rattle.flu_model.specs.Listed.{listed}
use Rattle.flu_seq.proofs.Turns.{at_start}
use Rattle.flu_seq.proofs.coming.Coming.of.Goals as goal

pub returns-clause-all : goal.returns-clause-all
returns-clause-all c =
    at_start (listed c.args.s.now) (heap_items c.in_ok-others.others) (heap_items c.pop_first-next.new.heads) c.pop_first-next.result
    c.in_ok-others.ensures c.pop_first-next.ensures
