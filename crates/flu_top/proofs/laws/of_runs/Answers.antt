use Rattle.flu_top.proofs.RunFronts.{runs_law, fresh_law, resumed_law}
use Rattle.flu_top.proofs.laws.of_runs.Goals as goal

pub returns-clause-fronts : goal.returns-clause-fronts
returns-clause-fronts c = runs_law (record {
  one_job = c.texts_have_one_job.ensures;
  rows = c.starts_have_rows.ensures;
  good = c.programs_of_a_job_agree.ensures.good;
  fronts = c.fronts_of_reports.ensures.fronts;
  nexts = c.fronts_of_reports.ensures.next;
})

pub returns-clause-fresh : goal.returns-clause-fresh
returns-clause-fresh c = fresh_law

pub returns-clause-resumed : goal.returns-clause-resumed
returns-clause-resumed c = resumed_law c.borders_cut_a_fold.ensures.fold c.borders_cut_a_fold.ensures.items
