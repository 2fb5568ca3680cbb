use Rattle.std.proofs.Common.{None}
use Rattle.flu_model.specs.Contents.{nothing_held}
use Rattle.flu_rounds.proofs.Comings.{law_of_beginning, law_of_going_on}
use Rattle.flu_rounds.proofs.laws.runs_go_on.Goals as goal

pub returns : goal.returns
returns c = record { beginning = law_of_beginning c.rounds_begin_and_end.ensures.start None nothing_held; going_on = law_of_going_on None nothing_held }
