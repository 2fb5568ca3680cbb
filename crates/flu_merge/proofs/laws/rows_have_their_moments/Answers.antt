use Rattle.flu_merge.proofs.Moments.{rows_at_moments}
use Rattle.flu_merge.proofs.laws.rows_have_their_moments.Goals as goal

pub returns : goal.returns
returns c = rows_at_moments
