use Rattle.flu_sending.proofs.OneJob.{send_same}
use Rattle.flu_sending.proofs.laws.programs_of_a_job_send_the_same.Goals as goal

pub returns : goal.returns
returns c = send_same c.programs_of_a_job_are_alike.ensures.reports c.programs_of_a_job_contribute_the_same.ensures.contributions
