use Rattle.flu_streams.proofs.OneJob.{jobs_read_the_same}
use Rattle.flu_streams.proofs.laws.programs_of_a_job_read_the_same.Goals as goal

pub returns : goal.returns
returns c = jobs_read_the_same
