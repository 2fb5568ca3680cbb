use Rattle.flu_plan.proofs.Exact.{found_is_plan, plans_are_unique}
use Rattle.flu_plan.proofs.laws.found_is_plan.Goals as goal

pub returns-clause-exactly : goal.returns-clause-exactly
returns-clause-exactly c = found_is_plan

pub returns-clause-unique : goal.returns-clause-unique
returns-clause-unique c = plans_are_unique
