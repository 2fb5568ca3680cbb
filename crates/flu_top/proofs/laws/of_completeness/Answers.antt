use Rattle.flu_top.proofs.LawsOfOutcome.{good_law, refused_job_law, refused_conflict_law, refused_plan_law, refused_start_law, refused_source_law}
use Rattle.flu_top.proofs.LawsOfOutcome.{refused_trace_law}
use Rattle.flu_top.proofs.laws.of_completeness.Goals as goal

pub returns-clause-completes : goal.returns-clause-completes
returns-clause-completes c = good_law

pub returns-clause-refuses_job : goal.returns-clause-refuses_job
returns-clause-refuses_job c = refused_job_law

pub returns-clause-refuses_conflict : goal.returns-clause-refuses_conflict
returns-clause-refuses_conflict c = refused_conflict_law

pub returns-clause-refuses_plan : goal.returns-clause-refuses_plan
returns-clause-refuses_plan c = refused_plan_law

pub returns-clause-refuses_start : goal.returns-clause-refuses_start
returns-clause-refuses_start c = refused_start_law

pub returns-clause-refuses_source : goal.returns-clause-refuses_source
returns-clause-refuses_source c = refused_source_law

pub returns-clause-refuses_trace : goal.returns-clause-refuses_trace
returns-clause-refuses_trace c = refused_trace_law
