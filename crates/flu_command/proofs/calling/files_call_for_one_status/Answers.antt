use Rattle.flu_command.proofs.Callings.{one_status}
use Rattle.flu_command.proofs.calling.files_call_for_one_status.Goals as goal

pub returns : goal.returns
returns c = one_status (record {
  jobs = c.jobs_are_grammar.ensures;
  plans = c.plans_are_grammar.ensures;
  texts_fit = c.programs_of_a_job_have_one_plan.ensures.each;
  acceptance = c.programs_of_a_job_are_alike.ensures.acceptance;
  of_jobs = record {
    itags = c.programs_of_a_job_are_alike.ensures.itags;
    owners = c.programs_of_a_job_are_alike.ensures.owners;
    reading = c.programs_of_a_job_read_the_same.ensures;
    plans = c.programs_of_a_job_have_one_plan.ensures.one;
  };
  meeting = c.rounds_meet_what_is_there.ensures.meeting;
  saves = c.faults_are_no_checkpoints.ensures;
  traces = c.a_trace_has_one_ending.ensures;
})
