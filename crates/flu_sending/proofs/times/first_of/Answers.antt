use Rattle.std.proofs.Common.{min}
use Rattle.flu_sending.proofs.Chosen.{min_assoc, item_more}
use Rattle.flu_sending.proofs.times.first_of.Goals as goal

pub loop-item-preserved : goal.loop-item-preserved
loop-item-preserved c =
    item_more min min_assoc _ _ _ _ _ _ c.loop-item-test.true c.loop-item.invariant c.time_of.ensures c.earlier-first.ensures
