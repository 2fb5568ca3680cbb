use Rattle.flu_contribution.proofs.Merged.{merged_strictly}
use Rattle.flu_contribution.proofs.laws.merged_events_rise_strictly.Goals as goal

pub returns : goal.returns
returns c = merged_strictly
