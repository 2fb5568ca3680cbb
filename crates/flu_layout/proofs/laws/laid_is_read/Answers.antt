use Rattle.flu_layout.proofs.Standing.{laid_is_read, begun_are_signs}
use Rattle.flu_layout.proofs.laws.laid_is_read.Goals as goal

pub returns-clause-tokens : goal.returns-clause-tokens
returns-clause-tokens c = laid_is_read c.names_are_tested.ensures.names c.layout_is_read.ensures.tokens

pub returns-clause-signs : goal.returns-clause-signs
returns-clause-signs c = begun_are_signs
