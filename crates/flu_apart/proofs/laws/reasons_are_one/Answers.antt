use Rattle.flu_apart.proofs.ReasonLemmas.{one_reason, no_reason}
use Rattle.flu_apart.proofs.laws.reasons_are_one.Goals as goal

pub returns : goal.returns
returns c = λ p nodes w. record { one = one_reason p nodes w; none = no_reason p nodes w }
