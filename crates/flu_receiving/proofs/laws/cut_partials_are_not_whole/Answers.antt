use Rattle.flu_receiving.proofs.Wholes.{cut_off}
use Rattle.flu_receiving.proofs.laws.cut_partials_are_not_whole.Goals as goal

pub returns : goal.returns
returns c = cut_off c.contributions_have_one_text.ensures
