use Rattle.flu_grammar.proofs.JobTexts.{texts_have_one_job}
use Rattle.flu_grammar.proofs.laws.texts_have_one_job.Goals as goal

pub returns : goal.returns
returns c = texts_have_one_job c.jobs_are_grammar.ensures
