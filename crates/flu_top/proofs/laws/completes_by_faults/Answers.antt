use Rattle.flu_top.proofs.LawsOfOutcome.{completes_law}
use Rattle.flu_top.proofs.laws.completes_by_faults.Goals as goal

pub returns : goal.returns
returns c = completes_law (record {
  one = c.files_call_for_one_status.ensures;
  done = c.what_ends_a_command_is_called_for.ensures.done;
  job_fault = c.what_ends_a_command_is_called_for.ensures.job_fault;
  conflict = c.what_ends_a_command_is_called_for.ensures.conflict;
  plan_defect = c.what_ends_a_command_is_called_for.ensures.plan_defect;
  save_defect = c.what_ends_a_command_is_called_for.ensures.save_defect;
  source_fault = c.what_ends_a_command_is_called_for.ensures.source_fault;
  trace_fault = c.what_ends_a_command_is_called_for.ensures.trace_fault;
})
