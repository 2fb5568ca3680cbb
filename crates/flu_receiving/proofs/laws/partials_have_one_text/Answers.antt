use Rattle.flu_receiving.proofs.Wholes.{one_text}
use Rattle.flu_receiving.proofs.laws.partials_have_one_text.Goals as goal

pub returns : goal.returns
returns c = one_text c.heads_have_one_text.ensures c.contributions_have_one_text.ensures
