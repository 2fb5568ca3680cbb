use Rattle.flu_plan.proofs.HasText.{plans_have_text}
use Rattle.flu_plan.proofs.laws.plans_have_text.Goals as goal

pub returns : goal.returns
returns c = plans_have_text c.read_may_be_printed.ensures c.signs_stand.ensures
