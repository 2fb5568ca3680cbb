use Rattle.flu_words.proofs.Rounds.{rounds_have_rows}
use Rattle.flu_words.proofs.laws.rounds_have_rows.Goals as goal

pub returns : goal.returns
returns c = rounds_have_rows
