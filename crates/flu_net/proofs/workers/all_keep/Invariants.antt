use Rattle.std.proofs.Common.{◌≡◌, ◌<◌, ℕ, Some}
use Rattle.std.specs.Prelude.{slice_get}
use Rattle.flu_worker.specs.Keeping.{HasRule}
use Rattle.flu_worker.specs.Notes.{WorkerNote}
use Rattle.flu_net.proofs.workers.all_keep.Given as goal

abbrev pub invariant-loop-w : goal.invariant-loop-w
invariant-loop-w l = (j : ℕ) (v : WorkerNote) → j < l.w → slice_get l.workers j ≡ Some v → HasRule v
