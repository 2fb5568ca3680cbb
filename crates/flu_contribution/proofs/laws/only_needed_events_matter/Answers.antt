use Rattle.flu_contribution.proofs.Needed.{only_needed}
use Rattle.flu_contribution.proofs.laws.only_needed_events_matter.Goals as goal

pub returns : goal.returns
returns c = only_needed
