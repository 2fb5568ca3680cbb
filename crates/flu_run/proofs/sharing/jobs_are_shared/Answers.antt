use Rattle.flu_run.proofs.SharedCases.{checked_sync}
use Rattle.flu_run.proofs.sharing.jobs_are_shared.Goals as goal

pub is_shared-requires-sync-T : goal.is_shared-requires-sync-T
is_shared-requires-sync-T c κs = record { shared = (checked_sync c.kinds_are_shared.ensures).shared }

pub returns : goal.returns
returns c = record { shared = c.is_shared.ensures.shared }
