use Rattle.std.proofs.Common.{arith}
use Rattle.flu_live.proofs.Bounds.{one_event_more}
use Rattle.flu_live.proofs.bounding.count_events.Goals as goal

pub loop-item-preserved : goal.loop-item-preserved
loop-item-preserved c = (
  one_event_more c.args.items.now c.loop-item.item-index _ c.loop-item.events c.one_event-events.result c.loop-item-test.true c.loop-item.invariant.0
      c.one_event-events.ensures.count,
  omega (arith, c.loop-item.invariant.1, c.one_event-events.ensures.small),
)
