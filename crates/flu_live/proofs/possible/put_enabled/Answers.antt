use Rattle.flu_live.proofs.Chosen.{one_more_of}
use Rattle.flu_live.proofs.possible.put_enabled.Goals as goal

pub loop-s-preserved : goal.loop-s-preserved
loop-s-preserved c = one_more_of c.args.net.now c.args.steps.now c.loop-s.s-index _ _ _ c.loop-s-test.true c.loop-s.invariant c.in_ok-put_one.ensures
