use Rattle.flu_rounds.proofs.Comings.{law_of_beginning, law_of_going_on}
use Rattle.flu_rounds.proofs.laws.resumed_runs_go_on.Goals as goal

pub returns : goal.returns
returns c = record { beginning = law_of_beginning c.rounds_begin_and_end.ensures.start; going_on = law_of_going_on }
