use Rattle.flu_top.proofs.Headlines.{fold_law}
use Rattle.flu_top.proofs.headline.fold_is_the_report.Goals as goal

pub returns : goal.returns
returns c = fold_law c.texts_have_one_job.ensures c.programs_of_a_job_agree.ensures.report
