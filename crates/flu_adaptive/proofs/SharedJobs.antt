-- Threads may share a job, each field of which is shown by itself: the whole is more than one search may take.
use denote.Param.Send.{IsSync, recorded_sync, struct_sync, sendable}
use denote.Struct.Declared as declared
use Rattle.std.proofs.Crossing as owned
use Rattle.std.proofs.MapsCrossing as maps
use Rattle.std.proofs.MapsCrossingOver as sets
use Rattle.flu_model.specs.contracts.jobs.Kind as Kind
use Rattle.flu_model.specs.contracts.jobs.Program as Program
use Rattle.flu_deps.specs.contracts.checked.Checked as Checked

-- a program, each field by itself
program_sync : IsSync Kind.the_row → IsSync (Program.the_field).row
program_sync kind = struct_sync (declared.shape Program.the_type) (
  search (sendable, owned.crosses, maps.crosses, sets.crosses) depth 60 fits 20000,
  (
    search (sendable, owned.crosses, maps.crosses, sets.crosses) depth 60 fits 20000,
    (
      search (sendable, owned.crosses, maps.crosses, sets.crosses) depth 60 fits 20000,
      (
        search (sendable, owned.crosses, maps.crosses, sets.crosses) depth 60 fits 20000,
        (
          search (sendable, owned.crosses, maps.crosses, sets.crosses) depth 60 fits 20000,
          (
            search (sendable, owned.crosses, maps.crosses, sets.crosses) depth 60 fits 20000,
            (
              search (sendable, owned.crosses, maps.crosses, sets.crosses) depth 60 fits 20000,
              (search (sendable, owned.crosses, maps.crosses, sets.crosses) depth 60 fits 20000, tt),
            ),
          ),
        ),
      ),
    ),
  ),
)

pub whole_program_sync : IsSync Kind.the_row → IsSync Program.the_row
whole_program_sync kind = recorded_sync _ _ _ (Program.the_type.to_one) (program_sync kind)

-- a job, whose one field is the program
pub checked_sync : IsSync Kind.the_row → IsSync Checked.the_row
checked_sync kind = recorded_sync _ _ _ (Checked.the_type.to_one) (struct_sync (declared.shape Checked.the_type) (program_sync kind, tt))
