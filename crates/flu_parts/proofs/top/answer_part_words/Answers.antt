use Rattle.flu_parts.proofs.Outcomes.{outcome_of, faults_of, hides_of}
use Rattle.flu_parts.proofs.top.answer_part_words.Goals as goal

pub returns-clause-outcome : goal.returns-clause-outcome
returns-clause-outcome g c = outcome_of _ _ _ _ _ _ c.do_words-ended.result c.do_words-ended.ensures.ends c.tell.ensures

pub returns-clause-read : goal.returns-clause-read
returns-clause-read g c = record { fronts = c.do_words-ended.ensures.fronts; only = c.do_words-ended.ensures.only }

pub returns-clause-faults : goal.returns-clause-faults
returns-clause-faults g c =
    faults_of _ _ c.do_words-ended.result c.do_words-ended.ensures.ends c.do_words-ended.ensures.quiet c.do_words-ended.ensures.written_quiet
    c.do_words-ended.ensures.puts

pub returns-clause-hides : goal.returns-clause-hides
returns-clause-hides g c = hides_of _ _ c.do_words-ended.result c.do_words-ended.ensures.ends

pub returns-clause-completes : goal.returns-clause-completes
returns-clause-completes g c =
    c.part_commands_complete_by_faults.ensures _ _ _ _ _ _
    (outcome_of _ _ _ _ _ _ c.do_words-ended.result c.do_words-ended.ensures.ends c.tell.ensures)
    (faults_of _ _ c.do_words-ended.result c.do_words-ended.ensures.ends c.do_words-ended.ensures.quiet c.do_words-ended.ensures.written_quiet
    c.do_words-ended.ensures.puts)
