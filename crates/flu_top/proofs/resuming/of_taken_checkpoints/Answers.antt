use Rattle.flu_top.proofs.Taken.{take_checkpoints}
use Rattle.flu_top.proofs.resuming.of_taken_checkpoints.Goals as goal

pub returns : goal.returns
returns c = take_checkpoints c.of_checkpoints.ensures.opens c.texts_have_one_job.ensures c.checkpoints_have_one_meaning.ensures
    c.checkpoints_are_of_jobs.ensures c.faults_are_no_checkpoints.ensures
