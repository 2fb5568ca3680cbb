-- FINAL: all items are seen, each worker has counted all events of its node's own itags and of those above it, and each leaf has its lot.
use Rattle.std.specs.Prelude.{◌≡◌, ℕ, Some, None, [], length, slice_get, slice_index, slice_index_or}
use Rattle.flu_model.specs.Listed.{listed}
use Rattle.flu_fork.specs.Lots.{kids, setting_of}
use Rattle.flu_fork.specs.Texts.{IsComplete}
use Rattle.flu_worker.specs.declared.hand.Hand.TheVariants.{Whole}
use Rattle.flu_worker.specs.Notes.{WorkerNote, own_of, above_of}
use Rattle.flu_net.specs.Notes.{NetNote}

pub record IsFinal (n : NetNote) : Type 0 where
  pub seen : (i : ℕ) → slice_index n.seen i ≡ length (slice_index_or (listed n.case.streams) i [])
  pub own : (w : ℕ) (v : WorkerNote) → slice_get n.workers w ≡ Some v → IsComplete (setting_of n.case) (own_of v) v.counts
  pub above : (w : ℕ) (v : WorkerNote) → slice_get n.workers w ≡ Some v → IsComplete (setting_of n.case) (above_of v) v.counts
  pub leaves : (w : ℕ) (v : WorkerNote) → slice_get n.workers w ≡ Some v → kids n.case w ≡ None → v.hand ≡ Whole
