use Rattle.flu_laws.proofs.Laws.{commuting_law}
use Rattle.flu_laws.proofs.independent_updates_commute.Goals as goal

pub returns : goal.returns
returns c = commuting_law
