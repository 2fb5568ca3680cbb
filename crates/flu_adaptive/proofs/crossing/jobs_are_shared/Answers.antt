use Rattle.flu_adaptive.proofs.SharedJobs.{checked_sync}
use Rattle.flu_adaptive.proofs.crossing.jobs_are_shared.Goals as goal

pub is_shared-requires-sync-T : goal.is_shared-requires-sync-T
is_shared-requires-sync-T c κs = record { shared = (checked_sync c.kinds_are_shared.ensures).shared }
