use Rattle.flu_laws.proofs.Laws.{left_law, right_law}
use Rattle.flu_laws.proofs.update_of_a_part.Goals as goal

pub returns : goal.returns
returns c = record { left = left_law; right = right_law }
