use Rattle.flu_plan.proofs.KeptLemmas.{plan_kept}
use Rattle.flu_plan.proofs.reading.read_plan.Goals as goal

pub plan_with-requires : goal.plan_with-requires
plan_with-requires c = plan_kept c.args.p.now c.args.bytes.now c.in_ok-nodes.nodes.items c.in_ok-nodes.ensures
