-- THE RULE OF THE NET: what holds after any list of steps, by node and by edge. In addition, each worker keeps a rule of its own. The ties of flu_worker say
-- how a worker relates to the edges that it touches; this file says which edge shows what, and what holds for the lots on it.
use Rattle.std.specs.Prelude.{◌≡◌, ℕ, ◌<◌, ◌≤◌, true, false, Some, List, [], length, slice_get, slice_index, slice_index_or}
use Rattle.flu_model.specs.declared.events.Out.{Out}
use Rattle.flu_model.specs.Itags.{count_of_itags}
use Rattle.flu_model.specs.Listed.{listed}
use Rattle.flu_fork.specs.declared.content.Content.{Content}
use Rattle.flu_fork.specs.declared.lots.Ask.{Ask}
use Rattle.flu_fork.specs.declared.lots.Lot.{Lot}
use Rattle.flu_fork.specs.Classes.{own, below}
use Rattle.flu_fork.specs.Lots.{job, nodes, kids, setting_of, LotFits}
use Rattle.flu_fork.specs.Serving.{GrownFrom, Served, counts_of, none_counted}
use Rattle.flu_fork.specs.Texts.{HasTexts}
use Rattle.flu_worker.specs.declared.hand.Side.{Side}
use Rattle.flu_worker.specs.Hands.{at_side, is_lost, is_open}
use Rattle.flu_worker.specs.Notes.{WorkerNote, above_of, lent_to, taken_from}
use Rattle.flu_worker.specs.Ties.{Away, Here, AskedFor, AtHome, LentOut, Recalled, HangsFrom, LetsTo, IsLoan}
use Rattle.flu_net.specs.declared.edges.Edge.{Edge}
use Rattle.flu_net.specs.declared.edges.Edge.TheVariants.{Home, Lent, Held, Asked, Given}
use Rattle.flu_net.specs.Notes.{NetNote}

-- ---- a worker under its edge: the lot is with it exactly if the edge is Held or Asked

-- a lot on its way down: it fits the node, and its counts continue from those of the lot given last
pub record IsUnderLent (n : WorkerNote) (lot : Lot) : Type 0 where
  pub shut : HangsFrom n Away
  pub fits : LotFits n.case n.node lot
  pub grown : GrownFrom n.case n.node n.given lot.upto

-- a lot on its way up is the one that was given last, and fits the node
pub record IsUnderGiven (n : WorkerNote) (lot : Lot) : Type 0 where
  pub shut : HangsFrom n Away
  pub fits : LotFits n.case n.node lot
  pub given : n.given ≡ lot.upto

abbrev pub Hangs : WorkerNote → Edge → Type 0
Hangs n Home = HangsFrom n Away
Hangs n (Lent lot) = IsUnderLent n lot
Hangs n Held = HangsFrom n Here
Hangs n (Asked y) = HangsFrom n (AskedFor y)
Hangs n (Given lot) = IsUnderGiven n lot

-- ---- the edge to a child, between the worker n and the child's worker c

-- the part is not out, and what was taken last is what the child gave last
pub record IsAtHome (s : Side) (n c : WorkerNote) : Type 0 where
  pub home : LetsTo s n AtHome
  pub given : c.given ≡ taken_from s n

-- the part is out, as it was lent
pub record IsOverLent (s : Side) (n c : WorkerNote) (lot : Lot) : Type 0 where
  pub out : LetsTo s n LentOut
  pub loan : IsLoan s n (counts_of lot) c.given

-- the child has the loan
pub record IsOverHeld (s : Side) (n c : WorkerNote) : Type 0 where
  pub out : LetsTo s n LentOut
  pub loan : IsLoan s n c.held c.given

-- it is asked back for the target that the worker keeps
pub record IsOverAsk (s : Side) (n c : WorkerNote) (y : Ask) : Type 0 where
  pub recalled : LetsTo s n (Recalled y)
  pub loan : IsLoan s n c.held c.given

-- what the child gave is served for that target
pub record IsOverGiven (s : Side) (n c : WorkerNote) (lot : Lot) : Type 0 where
  pub target : Ask
  pub recalled : LetsTo s n (Recalled target)
  pub served : Served c.case c.node (lent_to s n) target lot

abbrev pub Lets : Side → WorkerNote → Edge → WorkerNote → Type 0
Lets s n Home c = IsAtHome s n c
Lets s n (Lent lot) c = IsOverLent s n c lot
Lets s n Held c = IsOverHeld s n c
Lets s n (Asked y) c = IsOverAsk s n c y
Lets s n (Given lot) c = IsOverGiven s n c lot

-- ---- all workers and edges

pub record IsPlaced (k : Content) (seen : List ℕ) (w : ℕ) (n : WorkerNote) : Type 0 where
  pub case : n.case ≡ k
  pub node : n.node ≡ w
  pub sees : n.seen ≡ seen

pub record Ties (k : Content) (seen : List ℕ) (workers : List WorkerNote) (edges : List Edge) : Type 0 where
  pub workers_each : length workers ≡ length (nodes k)
  pub edges_each : length edges ≡ length (nodes k)
  pub placed : (w : ℕ) (n : WorkerNote) → slice_get workers w ≡ Some n → IsPlaced k seen w n
  -- the root has no edge above it, and has the opening lot
  pub top : slice_get edges 0 ≡ Some Home
  pub root : (n : WorkerNote) → slice_get workers 0 ≡ Some n → n.held ≡ none_counted k
  pub hangs : (w : ℕ) (n : WorkerNote) (e : Edge) → 0 < w → slice_get workers w ≡ Some n → slice_get edges w ≡ Some e → Hangs n e
  pub lets : (s : Side) (w l r : ℕ) (n c : WorkerNote) (e : Edge) → kids k w ≡ Some (l, r) → slice_get workers w ≡ Some n
      → slice_get edges (at_side s l r) ≡ Some e → slice_get workers (at_side s l r) ≡ Some c → Lets s n e c

-- a worker with the edge above it: if its target is of an itag above it, that target is asked over this edge; its lot is not lost; and the root has its lot,
-- or parts of it are out
pub record Stands (w : ℕ) (n : WorkerNote) (e : Edge) : Type 0 where
  pub asked : (y : Ask) → n.kept ≡ Some y → above_of n y.itag.0 ≡ true → e ≡ Asked y
  pub sound : is_lost n.hand ≡ false
  pub root : w ≡ 0 → is_open n.hand ≡ true

abbrev pub AllStand : List WorkerNote → List Edge → Type 0
AllStand workers edges = (w : ℕ) (n : WorkerNote) (e : Edge) → slice_get workers w ≡ Some n → slice_get edges w ≡ Some e → Stands w n e

-- no more items are seen than there are
pub record IsSeen (k : Content) (seen : List ℕ) : Type 0 where
  pub one_each : length seen ≡ count_of_itags (job k)
  pub there : (i : ℕ) → slice_index seen i ≤ length (slice_index_or (listed k.streams) i [])

-- OUTPUTS ONCE: `done` is, for each itag, what its owner counted, and the outputs are those of these events, each event's once
pub record Tells (k : Content) (workers : List WorkerNote) (outs : List Out) : Type 0 where
  pub done : List ℕ
  pub long : length done ≡ count_of_itags (job k)
  pub counted : (w : ℕ) (n : WorkerNote) (i : ℕ) → slice_get workers w ≡ Some n → own (job k) (nodes k) w i ≡ true → slice_index n.counts i ≡ slice_index done i
  pub texts : HasTexts (setting_of k) (below (job k) (nodes k) 0) done outs

pub record Rule (n : NetNote) : Type 0 where
  pub seen : IsSeen n.case n.seen
  pub ties : Ties n.case n.seen n.workers n.edges
  pub stands : AllStand n.workers n.edges
  pub tells : Tells n.case n.workers n.outs

-- this holds, unless memory ran out in a step
abbrev pub IsWell : NetNote → Type 0
IsWell n = n.gone ≡ false → Rule n
