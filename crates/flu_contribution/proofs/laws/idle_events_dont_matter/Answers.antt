use Rattle.flu_contribution.proofs.Idle.{idle_dont_matter}
use Rattle.flu_contribution.proofs.laws.idle_events_dont_matter.Goals as goal

pub returns : goal.returns
returns c = λ p nodes w opening test xs up idle. idle_dont_matter p nodes w test opening xs up idle
