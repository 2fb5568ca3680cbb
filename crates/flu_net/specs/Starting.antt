-- A net at the start.
use Rattle.std.specs.Prelude.{◌≡◌, ℕ, false, Some, List, [], length, slice_get}
use Rattle.flu_fork.specs.declared.content.Content.{Content}
use Rattle.flu_fork.specs.Laws.{no_counts}
use Rattle.flu_fork.specs.Lots.{job, nodes}
use Rattle.flu_worker.specs.Calls.{IsNew}
use Rattle.flu_worker.specs.Notes.{WorkerNote}
use Rattle.flu_net.specs.declared.edges.Edge.{Edge}
use Rattle.flu_net.specs.declared.edges.Edge.TheVariants.{Home}
use Rattle.flu_net.specs.Blocking.{AllKeep}
use Rattle.flu_net.specs.Notes.{NetNote}

-- the workers of the first nodes are new, each at its node, and each keeps a worker's rule
pub record AreNew (k : Content) (count : ℕ) (workers : List WorkerNote) : Type 0 where
  pub each : length workers ≡ count
  pub new : (w : ℕ) (n : WorkerNote) → slice_get workers w ≡ Some n → IsNew k w n
  pub keep : AllKeep workers

-- all edges are at home
pub record AreHome (count : ℕ) (edges : List Edge) : Type 0 where
  pub each : length edges ≡ count
  pub home : (v : ℕ) (e : Edge) → slice_get edges v ≡ Some e → e ≡ Home

pub record IsStart (k : Content) (n : NetNote) : Type 0 where
  pub case : n.case ≡ k
  pub gone : n.gone ≡ false
  pub seen : n.seen ≡ no_counts (job k)
  pub workers : AreNew k (length (nodes k)) n.workers
  pub edges : AreHome (length (nodes k)) n.edges
  pub outs : n.outs ≡ []
