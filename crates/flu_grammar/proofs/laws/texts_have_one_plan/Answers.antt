use Rattle.flu_grammar.proofs.PlanTexts.{texts_have_one_plan}
use Rattle.flu_grammar.proofs.laws.texts_have_one_plan.Goals as goal

pub returns : goal.returns
returns c = texts_have_one_plan c.plans_are_grammar.ensures
