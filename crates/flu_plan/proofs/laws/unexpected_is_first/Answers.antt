use Rattle.flu_plan.proofs.Exact.{unexpected_is_first}
use Rattle.flu_plan.proofs.laws.unexpected_is_first.Goals as goal

pub returns : goal.returns
returns c = unexpected_is_first
