use Rattle.flu_command.proofs.OneRuns.{LawsOfJobs, one_ending_of_trace, one_line_of_run, one_trace_of_run}
use Rattle.flu_command.proofs.determining.runs_are_determined.Goals as goal

pub returns : goal.returns
returns c =
    let jobs = c.jobs_are_grammar.ensures in
    let laws : LawsOfJobs = record {
      itags = c.programs_of_a_job_are_alike.ensures.itags;
      owners = c.programs_of_a_job_are_alike.ensures.owners;
      reading = c.programs_of_a_job_read_the_same.ensures;
      plans = c.programs_of_a_job_have_one_plan.ensures.one;
    } in
    record {
      line = one_line_of_run jobs laws c.a_seed_draws_one_run.ensures.line;
      trace = one_trace_of_run jobs laws c.a_seed_draws_one_run.ensures.trace;
      ending = one_ending_of_trace jobs laws c.a_trace_has_one_ending.ensures;
    }
