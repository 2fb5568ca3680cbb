use Rattle.flu_laws.proofs.OneJob.{same_itags, same_doing, same_acceptance, same_owners, same_reporting}
use Rattle.flu_laws.proofs.programs_of_a_job_are_alike.Goals as goal

pub returns : goal.returns
returns c =
    record { itags = same_itags; updates = same_doing; acceptance = same_acceptance; owners = same_owners; reports = same_reporting }
