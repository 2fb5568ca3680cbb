use Rattle.flu_streams.proofs.BorderLaws.{folds_in_turn, items_are_cut}
use Rattle.flu_streams.proofs.laws.borders_cut_a_fold.Goals as goal

pub returns : goal.returns
returns c = record { fold = folds_in_turn; items = items_are_cut }
