use Rattle.flu_grammar.proofs.Printed.{job_texts_keep_rules}
use Rattle.flu_grammar.proofs.laws.job_texts_keep_rules.Goals as goal

pub returns : goal.returns
returns c = job_texts_keep_rules c.jobs_are_grammar.ensures c.jobs_keep_rules.ensures
