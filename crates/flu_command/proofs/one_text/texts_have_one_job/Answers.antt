use Rattle.flu_command.proofs.OneRuns.{same_job}
use Rattle.flu_command.proofs.one_text.texts_have_one_job.Goals as goal

pub returns : goal.returns
returns c = same_job c.jobs_are_grammar.ensures
