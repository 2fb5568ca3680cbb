use Rattle.flu_syntax.proofs.Exact.{found_is_job, jobs_are_unique}
use Rattle.flu_syntax.proofs.laws.found_is_job.Goals as goal

pub returns-clause-exactly : goal.returns-clause-exactly
returns-clause-exactly c = found_is_job

pub returns-clause-unique : goal.returns-clause-unique
returns-clause-unique c = jobs_are_unique
