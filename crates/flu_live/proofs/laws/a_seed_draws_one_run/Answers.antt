use Rattle.flu_live.proofs.OneRun.{StepsDetermine, one_line, one_run, one_trace}
use Rattle.flu_live.proofs.laws.a_seed_draws_one_run.Goals as goal

pub returns : goal.returns
returns c =
    let d = c.steps_determine.ensures in
    let laws : StepsDetermine = record { start = d.start; step = d.step; enabled = d.enabled } in
    record { run = one_run laws; line = one_line laws; trace = one_trace laws }
