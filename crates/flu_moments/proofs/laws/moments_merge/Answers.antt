use Rattle.flu_moments.proofs.MergeLemmas.{moments_merge}
use Rattle.flu_moments.proofs.StableLemmas.{merge_is_stable}
use Rattle.flu_moments.proofs.laws.moments_merge.Goals as goal

pub returns-clause-merge : goal.returns-clause-merge
returns-clause-merge g c = λ sources ties files rows. moments_merge sources ties files rows

pub returns-clause-stable : goal.returns-clause-stable
returns-clause-stable g c = merge_is_stable
