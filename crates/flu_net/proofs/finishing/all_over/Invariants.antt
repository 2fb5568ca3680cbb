use Rattle.std.proofs.Common.{◌≡◌, ◌<◌, ℕ, Some}
use Rattle.std.specs.Prelude.{slice_get}
use Rattle.flu_worker.specs.Notes.{WorkerNote}
use Rattle.flu_net.specs.Ending.{IsOver}
use Rattle.flu_net.proofs.finishing.all_over.Given as goal

abbrev pub invariant-loop-worker : goal.invariant-loop-worker
invariant-loop-worker l = (w : ℕ) (v : WorkerNote) → w < l.worker-index → slice_get l.workers w ≡ Some v → IsOver v
