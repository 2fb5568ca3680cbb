use Rattle.flu_selected.proofs.OneJob.{jobs_select_the_same}
use Rattle.flu_selected.proofs.laws.programs_of_a_job_select_the_same.Goals as goal

pub returns : goal.returns
returns c = jobs_select_the_same c.programs_of_a_job_read_the_same.ensures
