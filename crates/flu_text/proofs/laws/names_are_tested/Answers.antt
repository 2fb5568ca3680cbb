use Rattle.flu_text.proofs.Names.{names_are_tested, reserved_is_spelled}
use Rattle.flu_text.proofs.laws.names_are_tested.Goals as goal

pub returns-clause-names : goal.returns-clause-names
returns-clause-names c = names_are_tested

pub returns-clause-reserved : goal.returns-clause-reserved
returns-clause-reserved c = reserved_is_spelled
