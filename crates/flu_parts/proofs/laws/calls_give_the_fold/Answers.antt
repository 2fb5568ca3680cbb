use Rattle.flu_parts.proofs.Dones.{calls_fold}
use Rattle.flu_parts.proofs.laws.calls_give_the_fold.Goals as goal

pub returns : goal.returns
returns c = calls_fold c.texts_have_one_job.ensures c.programs_of_a_job_agree.ensures.report c.partials_combined_are_the_fold.ensures
