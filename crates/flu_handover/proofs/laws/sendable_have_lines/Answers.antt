use Rattle.flu_handover.proofs.Rising.{law_of_texts}
use Rattle.flu_handover.proofs.laws.sendable_have_lines.Goals as goal

pub returns : goal.returns
returns c = law_of_texts
