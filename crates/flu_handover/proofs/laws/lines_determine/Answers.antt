use Rattle.flu_handover.proofs.Alike.{law_of_lines}
use Rattle.flu_handover.proofs.laws.lines_determine.Goals as goal

pub returns : goal.returns
returns c = law_of_lines
