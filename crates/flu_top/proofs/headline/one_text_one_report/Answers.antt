use Rattle.flu_top.proofs.Headlines.{one_text_law}
use Rattle.flu_top.proofs.headline.one_text_one_report.Goals as goal

pub returns : goal.returns
returns c = one_text_law c.jobs_are_grammar.ensures c.programs_of_a_job_agree.ensures.report
