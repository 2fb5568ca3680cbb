use Rattle.flu_worker.proofs.Turning.{lend_law, take_law, first_law, start_law, shut_law}
use Rattle.flu_worker.proofs.laws.hands_turn.Goals as goal

pub returns : goal.returns
returns c = record { lend = lend_law; take = take_law; first = first_law; start = start_law; shut = shut_law }
