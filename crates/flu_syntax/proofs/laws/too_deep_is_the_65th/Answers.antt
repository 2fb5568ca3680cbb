use Rattle.flu_syntax.proofs.Exact.{too_deep_is_the_65th}
use Rattle.flu_syntax.proofs.laws.too_deep_is_the_65th.Goals as goal

pub returns : goal.returns
returns c = too_deep_is_the_65th
