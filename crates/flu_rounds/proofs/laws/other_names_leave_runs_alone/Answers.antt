use Rattle.flu_rounds.proofs.OtherNames.{law_of_other_names}
use Rattle.flu_rounds.proofs.laws.other_names_leave_runs_alone.Goals as goal

pub returns : goal.returns
returns c = law_of_other_names
