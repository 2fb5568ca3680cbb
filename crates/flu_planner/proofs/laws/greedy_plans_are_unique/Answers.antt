use Rattle.flu_planner.proofs.TreeUnique.{greedy_is_unique}
use Rattle.flu_planner.proofs.laws.greedy_plans_are_unique.Goals as goal

pub returns : goal.returns
returns c = greedy_is_unique
