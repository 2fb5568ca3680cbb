use Rattle.flu_moments.proofs.MomentLemmas.{moments_apart, moments_in_order}
use Rattle.flu_moments.proofs.laws.moments_order_rows.Goals as goal

pub returns-clause-apart : goal.returns-clause-apart
returns-clause-apart c = moments_apart

pub returns-clause-order : goal.returns-clause-order
returns-clause-order c = moments_in_order
