use Rattle.flu_live_tests.proofs.Empty.{none_has_sorts}
use Rattle.flu_live_tests.proofs.stages.Stage.case.Goals as goal

pub new-requires-2-clause-sorts : goal.new-requires-2-clause-sorts
new-requires-2-clause-sorts c = none_has_sorts _ _ c.new.ensures
