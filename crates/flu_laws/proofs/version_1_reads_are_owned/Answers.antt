use Rattle.flu_laws.proofs.Versions.{nothing_is_shared, owns_what_it_reads, conflicts_without_read}
use Rattle.flu_laws.proofs.version_1_reads_are_owned.Goals as goal

pub returns : goal.returns
returns c = record { nothing_is_shared = nothing_is_shared; modes = owns_what_it_reads; conflicts = conflicts_without_read }
