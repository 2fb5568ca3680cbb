use Rattle.flu_text.proofs.Laid.{layout_is_read, layout_is_spelled}
use Rattle.flu_text.proofs.laws.layout_is_read.Goals as goal

pub returns-clause-tokens : goal.returns-clause-tokens
returns-clause-tokens c = layout_is_read

pub returns-clause-spellings : goal.returns-clause-spellings
returns-clause-spellings c = layout_is_spelled
