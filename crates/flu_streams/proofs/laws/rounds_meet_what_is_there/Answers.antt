use Rattle.flu_streams.proofs.Fronts.{law_of_fronts, law_of_fronts_above, law_of_meeting}
use Rattle.flu_streams.proofs.laws.rounds_meet_what_is_there.Goals as goal

pub returns-clause-fronts : goal.returns-clause-fronts
returns-clause-fronts c = law_of_fronts

pub returns-clause-above : goal.returns-clause-above
returns-clause-above c = law_of_fronts_above

pub returns-clause-meeting : goal.returns-clause-meeting
returns-clause-meeting c = law_of_meeting
