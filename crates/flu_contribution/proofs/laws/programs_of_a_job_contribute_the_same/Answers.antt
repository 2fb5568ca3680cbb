use Rattle.flu_contribution.proofs.OneJob.{LawsOfJobs, apart_alike, contribute_same}
use Rattle.flu_contribution.proofs.laws.programs_of_a_job_contribute_the_same.Goals as goal

pub returns : goal.returns
returns c =
    let given = c.programs_of_a_job_are_alike.ensures in
    let laws : LawsOfJobs = record { itags = given.itags; updates = given.updates; acceptance = given.acceptance; owners = given.owners } in
    record { apart = apart_alike laws; contributions = contribute_same laws }
