use Rattle.std.proofs.Common.{arith}
use Rattle.std.proofs.lemmas.Map.Text.{text_keys}
use Rattle.flu_selected.proofs.closed.ClosedNames.take.Goals as goal

pub returns-clause-same_names : goal.returns-clause-same_names
returns-clause-same_names c = λ n. grind (arith, text_keys)

pub returns-clause-others : goal.returns-clause-others
returns-clause-others c = λ n other. grind (arith, text_keys)
