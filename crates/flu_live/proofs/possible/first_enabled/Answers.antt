use Rattle.flu_live.proofs.Chosen.{none_more}
use Rattle.flu_live.proofs.possible.first_enabled.Goals as goal

pub loop-s-preserved : goal.loop-s-preserved
loop-s-preserved c = none_more c.args.net.now c.args.steps.now c.loop-s.s-index _ c.loop-s-test.true c.loop-s.invariant c.if-is_one.ensures.off
