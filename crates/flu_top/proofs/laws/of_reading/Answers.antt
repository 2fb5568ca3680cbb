use Rattle.flu_top.proofs.LawsOfOutcome.{fronts_law, only_law}
use Rattle.flu_top.proofs.laws.of_reading.Goals as goal

pub returns-clause-fronts : goal.returns-clause-fronts
returns-clause-fronts c = fronts_law

pub returns-clause-only : goal.returns-clause-only
returns-clause-only c = only_law
