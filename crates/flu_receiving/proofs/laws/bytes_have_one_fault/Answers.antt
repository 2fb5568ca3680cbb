use Rattle.flu_receiving.proofs.Faulty.{one_fault}
use Rattle.flu_receiving.proofs.laws.bytes_have_one_fault.Goals as goal

pub returns : goal.returns
returns c = one_fault c.contributions_have_one_text.ensures
