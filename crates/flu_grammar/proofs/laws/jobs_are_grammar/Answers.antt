use Rattle.flu_grammar.proofs.JobTexts.{jobs_are_grammar}
use Rattle.flu_grammar.proofs.laws.jobs_are_grammar.Goals as goal

pub returns : goal.returns
returns c = jobs_are_grammar c.reading_is_exact.ensures.tokens c.found_is_job.ensures.exactly
