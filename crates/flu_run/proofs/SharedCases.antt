-- Threads may share a case, where they may share the job, the plan and the streams that it borrows.
use denote.Ref.{NamedLft}
use denote.Param.Send.{IsSync, view_sync, recorded_sync, struct_sync, shr_sync, sendable}
use denote.Struct.Declared as declared
use Rattle.std.proofs.Crossing as owned
use Rattle.std.proofs.MapsCrossing as maps
use Rattle.std.proofs.MapsCrossingOver as sets
use Rattle.flu_model.specs.contracts.streams.Streams as Streams
use Rattle.flu_model.specs.contracts.jobs.Kind as Kind
use Rattle.flu_model.specs.contracts.jobs.Program as Program
use Rattle.flu_deps.specs.contracts.checked.Checked as Checked
use Rattle.flu_deps.specs.contracts.valid.Valid as Valid
use Rattle.flu_fork.specs.contracts.case.Case as Case
use Rattle.flu_fork.specs.contracts.case.Case.TheInside as inside

-- each field by itself: the whole is more than one search may take
inside_sync : (ℓ : NamedLft) → IsSync Checked.the_row → IsSync Valid.the_row → IsSync Streams.the_row → IsSync (inside.the_row ℓ)
inside_sync ℓ checked valid streams = recorded_sync _ _ _ ((inside.the_type ℓ).to_one) (struct_sync (declared.shape (inside.the_type ℓ)) (
  shr_sync ℓ.mir ℓ.lft Checked.the_row checked,
  (
    shr_sync ℓ.mir ℓ.lft Valid.the_row valid,
    (
      shr_sync ℓ.mir ℓ.lft Streams.the_row streams,
      (
        search (sendable, owned.crosses, maps.crosses, sets.crosses) depth 40 fits 5000,
        (
          search (sendable, owned.crosses, maps.crosses, sets.crosses) depth 40 fits 5000,
          (search (sendable, owned.crosses, maps.crosses, sets.crosses) depth 40 fits 5000, tt),
        ),
      ),
    ),
  ),
))

pub case_sync : (ℓ : NamedLft) → IsSync Checked.the_row → IsSync Valid.the_row → IsSync Streams.the_row → IsSync (Case.the_row ℓ)
case_sync ℓ checked valid streams = view_sync (inside.the_row ℓ) _ _ _ _ (inside_sync ℓ checked valid streams)

-- a program, each field by itself
program_sync : IsSync Kind.the_row → IsSync (Program.the_field).row
program_sync kind = struct_sync (declared.shape Program.the_type) (
  search (sendable, owned.crosses, maps.crosses, sets.crosses) depth 60 fits 20000,
  (
    search (sendable, owned.crosses, maps.crosses, sets.crosses) depth 60 fits 20000,
    (
      search (sendable, owned.crosses, maps.crosses, sets.crosses) depth 60 fits 20000,
      (
        search (sendable, owned.crosses, maps.crosses, sets.crosses) depth 60 fits 20000,
        (
          search (sendable, owned.crosses, maps.crosses, sets.crosses) depth 60 fits 20000,
          (
            search (sendable, owned.crosses, maps.crosses, sets.crosses) depth 60 fits 20000,
            (
              search (sendable, owned.crosses, maps.crosses, sets.crosses) depth 60 fits 20000,
              (search (sendable, owned.crosses, maps.crosses, sets.crosses) depth 60 fits 20000, tt),
            ),
          ),
        ),
      ),
    ),
  ),
)

-- a job, whose one field is the program
pub checked_sync : IsSync Kind.the_row → IsSync Checked.the_row
checked_sync kind = recorded_sync _ _ _ (Checked.the_type.to_one) (struct_sync (declared.shape Checked.the_type) (program_sync kind, tt))
