use Rattle.flu_top.proofs.TwoRuns.{complete_reports}
use Rattle.flu_top.proofs.resuming.of_two_runs.Goals as goal

pub returns : goal.returns
returns c = complete_reports c.of_checkpoints.ensures.rest c.of_resumed_sources.ensures.sources c.texts_have_one_job.ensures
    c.programs_of_a_job_agree.ensures.rest c.checkpoints_have_one_meaning.ensures c.checkpoints_are_of_jobs.ensures
