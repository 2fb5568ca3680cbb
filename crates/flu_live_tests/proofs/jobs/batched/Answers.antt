use Rattle.flu_live_tests.proofs.Empty.{none_has_sorts}
use Rattle.flu_live_tests.proofs.jobs.batched.Goals as goal

pub batch-requires-clause-sorts : goal.batch-requires-clause-sorts
batch-requires-clause-sorts g c = none_has_sorts _ _ c.new.ensures
