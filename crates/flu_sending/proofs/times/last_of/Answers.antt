use Rattle.std.proofs.Common.{max}
use Rattle.flu_sending.proofs.Chosen.{max_assoc, item_more}
use Rattle.flu_sending.proofs.times.last_of.Goals as goal

pub loop-item-preserved : goal.loop-item-preserved
loop-item-preserved c =
    item_more max max_assoc _ _ _ _ _ _ c.loop-item-test.true c.loop-item.invariant c.time_of.ensures c.later-last.ensures
