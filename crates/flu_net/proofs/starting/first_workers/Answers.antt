use Rattle.flu_net.proofs.Starts.{new_more}
use Rattle.flu_net.proofs.starting.first_workers.Goals as goal

pub loop-w-preserved : goal.loop-w-preserved
loop-w-preserved c =
    (c.loop-w.invariant.0, new_more c.args.case.now c.loop-w.w _ _ _ c.in_ok-push.ensures.items c.in_ok-worker.ensures c.rule.ensures c.loop-w.invariant.1)
