use Rattle.flu_planner.proofs.PlanRules.{greedy_keeps_rules}
use Rattle.flu_planner.proofs.laws.greedy_plans_keep_rules.Goals as goal

pub returns : goal.returns
returns c = greedy_keeps_rules c.itags_have_tags.ensures.fits
