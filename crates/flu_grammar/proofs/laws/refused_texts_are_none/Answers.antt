use Rattle.flu_grammar.proofs.Faults.{refused_is_no_job, refused_is_no_plan}
use Rattle.flu_grammar.proofs.laws.refused_texts_are_none.Goals as goal

pub returns-clause-job : goal.returns-clause-job
returns-clause-job c = refused_is_no_job c.jobs_are_grammar.ensures

pub returns-clause-plan : goal.returns-clause-plan
returns-clause-plan c = refused_is_no_plan c.plans_are_grammar.ensures
