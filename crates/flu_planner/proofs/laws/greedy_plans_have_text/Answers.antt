use Rattle.flu_planner.proofs.PlanText.{greedy_has_text}
use Rattle.flu_planner.proofs.laws.greedy_plans_have_text.Goals as goal

pub returns : goal.returns
returns c = greedy_has_text c.itags_have_tags.ensures.fits
