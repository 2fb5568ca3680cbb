-- The workers and edges of a net in which nothing is left to do.
use Rattle.std.specs.Prelude.{◌≡◌, ℕ, ◌<◌, ◌≤◌, Some, None, List, [], length, slice_get, slice_index, slice_index_or}
use Rattle.flu_model.specs.Listed.{listed}
use Rattle.flu_fork.specs.declared.content.Content.{Content}
use Rattle.flu_fork.specs.declared.lots.Lot.{Lot}
use Rattle.flu_fork.specs.Completing.{BringsAll}
use Rattle.flu_fork.specs.Lots.{nodes, kids}
use Rattle.flu_fork.specs.Serving.{LotCounts, none_counted}
use Rattle.flu_worker.specs.declared.hand.Hand.TheVariants.{Whole}
use Rattle.flu_worker.specs.declared.hand.Side.{Side}
use Rattle.flu_worker.specs.Calls.{HasDoneAll, IsFinished}
use Rattle.flu_worker.specs.Hands.{at_side}
use Rattle.flu_worker.specs.Keeping.{HasRule}
use Rattle.flu_worker.specs.Notes.{WorkerNote, lent_to}
use Rattle.flu_net.specs.declared.edges.Edge.{Edge}
use Rattle.flu_net.specs.declared.edges.Edge.TheVariants.{Given}

-- ---- is_final

-- all items of each itag are seen
abbrev pub SeesAllItems : Content → List ℕ → Type 0
SeesAllItems k seen = (i : ℕ) → slice_index seen i ≡ length (slice_index_or (listed k.streams) i [])

-- the workers are those of a case
abbrev pub AreOf : Content → List WorkerNote → Type 0
AreOf k workers = (w : ℕ) (v : WorkerNote) → slice_get workers w ≡ Some v → v.case ≡ k

-- each worker has nothing left to do
pub record IsOver (v : WorkerNote) : Type 0 where
  pub all : HasDoneAll v
  pub finished : IsFinished v

abbrev pub AreOver : List WorkerNote → Type 0
AreOver workers = (w : ℕ) (v : WorkerNote) → slice_get workers w ≡ Some v → IsOver v

-- or one of them has
pub record OneIsLeft (workers : List WorkerNote) : Type 0 where
  pub at : ℕ
  pub worker : WorkerNote
  pub is : slice_get workers at ≡ Some worker
  pub rule : HasRule worker
  pub left : HasDoneAll worker → ⊥

-- ---- joined

-- a worker of a final net: it has nothing left to do, and a leaf has its lot
pub record IsAtEnd (k : Content) (w : ℕ) (v : WorkerNote) : Type 0 where
  pub case : v.case ≡ k
  pub node : v.node ≡ w
  pub done : HasRule v → HasDoneAll v
  pub leaf : kids k w ≡ None → v.hand ≡ Whole

-- and all of them: each child has the part that its node lent last, and the root the opening lot
pub record AreAtEnd (k : Content) (workers : List WorkerNote) : Type 0 where
  pub each : length workers ≡ length (nodes k)
  pub at : (w : ℕ) (v : WorkerNote) → slice_get workers w ≡ Some v → IsAtEnd k w v
  pub lent : (s : Side) (w l r : ℕ) (v c : WorkerNote) → kids k w ≡ Some (l, r) → slice_get workers w ≡ Some v → slice_get workers (at_side s l r) ≡ Some c
      → c.held ≡ lent_to s v
  pub root : (v : WorkerNote) → slice_get workers 0 ≡ Some v → v.held ≡ none_counted k

-- a lot with all events of a child's subtree is on its way up from it
pub record IsBrought (k : Content) (v : ℕ) (lent : LotCounts) (edges : List Edge) : Type 0 where
  pub lot : Lot
  pub on : slice_get edges v ≡ Some (Given lot)
  pub all : BringsAll k v lent lot

-- this holds for each edge from a node before m to a child that is not before m
pub record AreBrought (k : Content) (m : ℕ) (workers : List WorkerNote) (edges : List Edge) : Type 0 where
  pub each : length edges ≡ length (nodes k)
  pub brought : (s : Side) (u l r : ℕ) (v : WorkerNote) → u < m → slice_get workers u ≡ Some v → kids k u ≡ Some (l, r)
      → m ≤ at_side s l r → IsBrought k (at_side s l r) (lent_to s v) edges
