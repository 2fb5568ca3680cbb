use Rattle.flu_plan.proofs.OneJob.{jobs_read_plans_alike}
use Rattle.flu_plan.proofs.laws.programs_of_a_job_read_plans_alike.Goals as goal

pub returns : goal.returns
returns c = jobs_read_plans_alike
