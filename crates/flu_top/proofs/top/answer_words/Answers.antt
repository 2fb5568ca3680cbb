use Rattle.std.proofs.Common.{map, string_bytes}
use Rattle.flu_top.proofs.Outcomes.{outcome_of, faults_of, hides_of}
use Rattle.flu_top.proofs.Completeness.{completes_of}
use Rattle.flu_top.proofs.top.answer_words.Goals as goal

pub returns-clause-outcome : goal.returns-clause-outcome
returns-clause-outcome g c = outcome_of _ _ _ _ _ _ c.do_words-ended.result c.do_words-ended.ensures.ends c.tell.ensures

pub returns-clause-read : goal.returns-clause-read
returns-clause-read g c = record { fronts = c.do_words-ended.ensures.fronts; only = c.do_words-ended.ensures.only }

pub returns-clause-faults : goal.returns-clause-faults
returns-clause-faults g c =
    faults_of _ _ c.do_words-ended.result c.do_words-ended.ensures.ends c.do_words-ended.ensures.quiet c.do_words-ended.ensures.written_quiet
    c.do_words-ended.ensures.puts

pub returns-clause-hides : goal.returns-clause-hides
returns-clause-hides g c = hides_of _ _ c.do_words-ended.result c.do_words-ended.ensures.ends

pub returns-clause-completes : goal.returns-clause-completes
returns-clause-completes g c = completes_of (record {
  one = c.files_call_for_one_status.ensures;
  done = c.what_ends_a_command_is_called_for.ensures.done;
  job_fault = c.what_ends_a_command_is_called_for.ensures.job_fault;
  conflict = c.what_ends_a_command_is_called_for.ensures.conflict;
  plan_defect = c.what_ends_a_command_is_called_for.ensures.plan_defect;
  save_defect = c.what_ends_a_command_is_called_for.ensures.save_defect;
  source_fault = c.what_ends_a_command_is_called_for.ensures.source_fault;
  trace_fault = c.what_ends_a_command_is_called_for.ensures.trace_fault;
}) _ _ _ _ _ _ (returns-clause-outcome g c)
    (returns-clause-faults g c)
