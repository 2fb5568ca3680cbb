use Rattle.flu_selected.proofs.Faults.{defects_law, good_stay_good}
use Rattle.flu_selected.proofs.laws.closed_sources_have_no_defect.Goals as goal

pub returns-clause-first : goal.returns-clause-first
returns-clause-first c = defects_law

pub returns-clause-good : goal.returns-clause-good
returns-clause-good c = good_stay_good
