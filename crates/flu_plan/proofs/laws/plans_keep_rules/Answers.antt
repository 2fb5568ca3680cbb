use Rattle.flu_plan.proofs.KeptLemmas.{plan_kept}
use Rattle.flu_plan.proofs.laws.plans_keep_rules.Goals as goal

pub returns : goal.returns
returns c = plan_kept
