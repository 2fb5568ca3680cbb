use Rattle.flu_receiving.proofs.Faulty.{not_whole}
use Rattle.flu_receiving.proofs.laws.faulty_bytes_are_not_whole.Goals as goal

pub returns : goal.returns
returns c = not_whole c.contributions_have_one_text.ensures
