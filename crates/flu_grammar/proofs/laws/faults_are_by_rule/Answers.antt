use Rattle.flu_grammar.proofs.BrokenJobs.{faults_are_by_rule}
use Rattle.flu_grammar.proofs.BrokenPlans.{plan_faults_are_by_rule}
use Rattle.flu_grammar.proofs.laws.faults_are_by_rule.Goals as goal

pub returns-clause-job : goal.returns-clause-job
returns-clause-job c =
    faults_are_by_rule c.reading_is_exact.ensures.tokens c.reading_is_exact.ensures.bad_place c.found_is_job.ensures.exactly c.unexpected_is_first.ensures
    c.too_deep_is_the_65th.ensures

pub returns-clause-plan : goal.returns-clause-plan
returns-clause-plan c =
    plan_faults_are_by_rule c.reading_is_exact.ensures.tokens c.reading_is_exact.ensures.bad_place c.found_is_plan.ensures.exactly
    c.unexpected_is_first-2.ensures
