use Rattle.flu_streams.proofs.OneJob.{timing_in}
use Rattle.flu_command.proofs.SameJob.{same_good, same_mended}
use Rattle.flu_command.proofs.SameFold.{same_report, same_report_from}
use Rattle.flu_command.proofs.one_text.programs_of_a_job_agree.Goals as goal

pub returns-clause-report : goal.returns-clause-report
returns-clause-report c = λ p q s left same.
    let jobs = c.programs_of_a_job_are_alike.ensures in
    same_report p q (jobs.updates p q same) (jobs.reports p q same) (c.programs_of_a_job_read_the_same.ensures p q same) s left

pub returns-clause-rest : goal.returns-clause-rest
returns-clause-rest c = λ p q same.
    let jobs = c.programs_of_a_job_are_alike.ensures in
    same_report_from p q (jobs.updates p q same) (jobs.reports p q same) (c.programs_of_a_job_read_the_same.ensures p q same)
    (λ j. (timing_in (same j) 0).scale)

pub returns-clause-good : goal.returns-clause-good
returns-clause-good c = same_good c.programs_of_a_job_read_the_same.ensures

pub returns-clause-mended : goal.returns-clause-mended
returns-clause-mended c = same_mended c.programs_of_a_job_read_the_same.ensures
