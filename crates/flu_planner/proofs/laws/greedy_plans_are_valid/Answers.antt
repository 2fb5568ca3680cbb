use Rattle.flu_planner.proofs.PlanValid.{greedy_is_valid}
use Rattle.flu_planner.proofs.laws.greedy_plans_are_valid.Goals as goal

pub returns : goal.returns
returns c = greedy_is_valid
