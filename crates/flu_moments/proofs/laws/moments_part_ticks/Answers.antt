use Rattle.flu_moments.proofs.BetweenLemmas.{moments_part_ticks, rows_tell_ticks}
use Rattle.flu_moments.proofs.FrontLemmas.{fronts_tell_ticks}
use Rattle.flu_moments.proofs.laws.moments_part_ticks.Goals as goal

pub returns-clause-part : goal.returns-clause-part
returns-clause-part c = moments_part_ticks

pub returns-clause-rows : goal.returns-clause-rows
returns-clause-rows c = rows_tell_ticks

pub returns-clause-fronts : goal.returns-clause-fronts
returns-clause-fronts c = fronts_tell_ticks
