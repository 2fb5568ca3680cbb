use Rattle.flu_parts.proofs.Completing.{completes_of}
use Rattle.flu_parts.proofs.laws.part_commands_complete_by_faults.Goals as goal

pub returns : goal.returns
returns c = completes_of (record {
  one = c.files_call_for_one_status.ensures;
  job_fault = c.what_ends_a_command_is_called_for.ensures.job_fault;
  conflict = c.what_ends_a_command_is_called_for.ensures.conflict;
  plan_defect = c.what_ends_a_command_is_called_for.ensures.plan_defect;
  reasons = c.reasons_are_one.ensures;
  no_partial = c.one_of_three_happens.ensures.partials;
  no_source = c.one_of_three_happens.ensures.sources;
  apart = c.one_of_three_happens.ensures.apart;
})
