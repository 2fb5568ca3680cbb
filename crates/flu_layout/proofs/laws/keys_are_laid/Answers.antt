use Rattle.flu_layout.proofs.KeyWords.{keys_are_spelled, keys_are_laid}
use Rattle.flu_layout.proofs.laws.keys_are_laid.Goals as goal

pub returns-clause-spelled : goal.returns-clause-spelled
returns-clause-spelled c = keys_are_spelled

pub returns-clause-laid : goal.returns-clause-laid
returns-clause-laid c = keys_are_laid
