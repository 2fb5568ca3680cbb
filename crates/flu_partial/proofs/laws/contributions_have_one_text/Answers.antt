use Rattle.flu_partial.proofs.Single.{law_of_contributions}
use Rattle.flu_partial.proofs.laws.contributions_have_one_text.Goals as goal

pub returns : goal.returns
returns c = law_of_contributions
