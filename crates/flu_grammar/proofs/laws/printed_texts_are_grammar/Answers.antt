use Rattle.flu_grammar.proofs.Printed.{normal_form_is_text, printed_is_text}
use Rattle.flu_grammar.proofs.laws.printed_texts_are_grammar.Goals as goal

pub returns-clause-job : goal.returns-clause-job
returns-clause-job c = normal_form_is_text c.jobs_are_grammar.ensures c.printed_is_read.ensures

pub returns-clause-plan : goal.returns-clause-plan
returns-clause-plan c = printed_is_text c.plans_are_grammar.ensures c.printed_is_read-2.ensures
