-- Showing an arrival to workers.
use Rattle.std.specs.Prelude.{◌≡◌, ℕ, ◌<◌, ◌≤◌, Some, List, [], length, slice_get, slice_index, slice_index_or}
use Rattle.flu_model.specs.Listed.{listed}
use Rattle.flu_fork.specs.declared.content.Content.{Content}
use Rattle.flu_worker.specs.Notes.{WorkerNote}

-- a worker of the case may be shown this many items of an itag
pub record MaySee (k : Content) (i count : ℕ) (n : WorkerNote) : Type 0 where
  pub case : k ≡ n.case
  pub in_range : i < length n.seen
  pub forward : slice_index n.seen i ≤ count
  pub there : count ≤ length (slice_index_or (listed n.case.streams) i [])

abbrev pub AllMaySee : Content → ℕ → ℕ → List WorkerNote → Type 0
AllMaySee k i count workers = (w : ℕ) (n : WorkerNote) → slice_get workers w ≡ Some n → MaySee k i count n
