use Rattle.flu_grammar.proofs.PlanTexts.{texts_fit_each, jobs_have_one_plan}
use Rattle.flu_grammar.proofs.laws.programs_of_a_job_have_one_plan.Goals as goal

pub returns : goal.returns
returns c =
    let plans = c.plans_are_grammar.ensures in
    let alike = c.programs_of_a_job_read_plans_alike.ensures in
    record { each = texts_fit_each plans alike; one = jobs_have_one_plan plans c.texts_have_one_plan.ensures alike }
