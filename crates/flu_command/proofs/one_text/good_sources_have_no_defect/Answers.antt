use Rattle.flu_command.proofs.Defects.{good_or_bad}
use Rattle.flu_command.proofs.one_text.good_sources_have_no_defect.Goals as goal

pub returns : goal.returns
returns c = good_or_bad
