use Rattle.flu_command.proofs.Callings.{LawsBelow, done_called, job_fault_called, conflict_called, plan_defect_called, save_defect_called, source_fault_called}
use Rattle.flu_command.proofs.Callings.{trace_fault_called}
use Rattle.flu_command.proofs.calling.what_ends_a_command_is_called_for.Goals as goal

pub returns : goal.returns
returns c =
    let laws : LawsBelow = record {
      jobs = c.jobs_are_grammar.ensures;
      plans = c.plans_are_grammar.ensures;
      texts_fit = c.programs_of_a_job_have_one_plan.ensures.each;
      acceptance = c.programs_of_a_job_are_alike.ensures.acceptance;
      of_jobs = record {
        itags = c.programs_of_a_job_are_alike.ensures.itags;
        owners = c.programs_of_a_job_are_alike.ensures.owners;
        reading = c.programs_of_a_job_read_the_same.ensures;
        plans = c.programs_of_a_job_have_one_plan.ensures.one;
      };
      meeting = c.rounds_meet_what_is_there.ensures.meeting;
      saves = c.faults_are_no_checkpoints.ensures;
      traces = c.a_trace_has_one_ending.ensures;
    } in
    record {
      done = done_called laws;
      job_fault = job_fault_called laws;
      conflict = conflict_called laws;
      plan_defect = plan_defect_called laws;
      save_defect = save_defect_called laws;
      source_fault = source_fault_called laws;
      trace_fault = trace_fault_called laws;
    }
