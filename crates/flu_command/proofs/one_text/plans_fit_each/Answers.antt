use Rattle.flu_command.proofs.Callings.{valid_of_text}
use Rattle.flu_command.proofs.one_text.plans_fit_each.Goals as goal

pub returns : goal.returns
returns c =
    valid_of_text c.jobs_are_grammar.ensures c.programs_of_a_job_have_one_plan.ensures.each c.programs_of_a_job_are_alike.ensures.owners
