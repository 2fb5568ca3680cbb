use Rattle.flu_grammar.proofs.PlanTexts.{plans_are_grammar}
use Rattle.flu_grammar.proofs.laws.plans_are_grammar.Goals as goal

pub returns : goal.returns
returns c = plans_are_grammar c.reading_is_exact.ensures.tokens c.found_is_plan.ensures.exactly c.plans_keep_rules.ensures
