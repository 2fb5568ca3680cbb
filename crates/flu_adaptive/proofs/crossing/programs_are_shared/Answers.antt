use Rattle.flu_adaptive.proofs.SharedJobs.{whole_program_sync}
use Rattle.flu_adaptive.proofs.crossing.programs_are_shared.Goals as goal

pub is_shared-requires-sync-T : goal.is_shared-requires-sync-T
is_shared-requires-sync-T c κs = record { shared = (whole_program_sync c.kinds_are_shared.ensures).shared }
