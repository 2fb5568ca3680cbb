use Rattle.flu_top.proofs.Headlines.{run_law, simulation_law, replay_law}
use Rattle.flu_top.proofs.headline.runs_are_the_fold.Goals as goal

pub returns-clause-run : goal.returns-clause-run
returns-clause-run c = run_law c.texts_have_one_job.ensures c.programs_of_a_job_agree.ensures.report c.rounds_have_rows.ensures

pub returns-clause-simulation : goal.returns-clause-simulation
returns-clause-simulation c = simulation_law c.texts_have_one_job.ensures c.programs_of_a_job_agree.ensures.report

pub returns-clause-replay : goal.returns-clause-replay
returns-clause-replay c = replay_law c.texts_have_one_job.ensures c.programs_of_a_job_agree.ensures.report
