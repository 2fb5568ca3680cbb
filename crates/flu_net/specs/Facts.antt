-- FACTS that hold after every list of steps, one by one: each event that a worker handles has an exact place, the parts of a lot are paired, and what the
-- owners counted is a prefix for dependent events.
use Rattle.std.specs.Prelude.{◌≡◌, ℕ, ◌<◌, true, Option, Some, None, List, slice_get, slice_index}
use Rattle.flu_model.specs.declared.events.Event.{Event}
use Rattle.flu_model.specs.Merging.{is_before}
use Rattle.flu_deps.specs.Dependencies.{itags_depend}
use Rattle.flu_fork.specs.declared.content.Content.{Content}
use Rattle.flu_fork.specs.declared.lots.Lot.{Lot}
use Rattle.flu_fork.specs.Classes.{itag, own}
use Rattle.flu_fork.specs.Lots.{job, nodes, kids, setting_of, LotsPaired}
use Rattle.flu_fork.specs.Streams.{IsEventAt}
use Rattle.flu_worker.specs.declared.hand.Side.{Side}
use Rattle.flu_worker.specs.declared.hand.Side.TheVariants.{Left, Right}
use Rattle.flu_worker.specs.declared.holding.Holding.{Holding}
use Rattle.flu_worker.specs.declared.holding.Holding.TheVariants.{Empty, Whole, LendingBoth, LendingLeft, LendingRight, Down, TakingLeft, TakingRight, Gone}
use Rattle.flu_worker.specs.Hands.{at_side}
use Rattle.flu_worker.specs.Next.{IsExactInHand}
use Rattle.flu_worker.specs.Notes.{WorkerNote}
use Rattle.flu_net.specs.declared.edges.Edge.TheVariants.{Lent, Given}
use Rattle.flu_net.specs.declared.steps.Step.{Step}
use Rattle.flu_net.specs.Effects.{Handles}
use Rattle.flu_net.specs.Notes.{NetNote}
use Rattle.flu_net.specs.Runs.{Runs}
use Rattle.flu_net.specs.Starting.{IsStart}

-- ---- exact places

-- EVENTS ARE EXACT: whatever steps come before, when a worker handles an event, the counts of the lot in its hand are exact for this event
abbrev pub EventsAreExact : Type 0
EventsAreExact =
    (k : Content) (old now new : NetNote) (steps : List Step) (w : ℕ) → IsStart k old → Runs steps old now
    → (h : Handles w now new) → IsExactInHand h.step.was h.event

-- ---- paired parts

-- the part that a hand has for a side
abbrev pub part_of : Side → Holding → Option Lot
part_of s Empty = None
part_of s (Whole lot) = None
part_of s (LendingBoth left right) = Some (at_side s left right)
part_of s (LendingLeft left) = at_side s (Some left) None
part_of s (LendingRight right) = at_side s None (Some right)
part_of s Down = None
part_of s (TakingLeft left) = at_side s (Some left) None
part_of s (TakingRight right) = at_side s None (Some right)
part_of s Gone = None

-- the part of a worker's lot for its child v, wherever it is: in the worker's hand, on its way down, whole in the child's hand, or on its way up
pub data IsPart (n : NetNote) (s : Side) (worker : WorkerNote) (v : ℕ) (lot : Lot) : Type 0 where
  InHand : part_of s worker.holding ≡ Some lot → IsPart n s worker v lot
  GoesDown : slice_get n.edges v ≡ Some (Lent lot) → IsPart n s worker v lot
  WithChild : (child : WorkerNote) → slice_get n.workers v ≡ Some child → child.holding ≡ Whole lot → IsPart n s worker v lot
  GoesUp : slice_get n.edges v ≡ Some (Given lot) → IsPart n s worker v lot

-- PARTS ARE PAIRED: after any list of steps the two parts of a worker's lot, wherever they are, have the counts of one fork, each as it was lent or as it came
-- back
abbrev pub PartsArePaired : Type 0
PartsArePaired =
    (k : Content) (old new : NetNote) (steps : List Step) (w l r : ℕ) (worker : WorkerNote) (left right : Lot) → IsStart k old → Runs steps old new
    → slice_get new.workers w ≡ Some worker → kids k w ≡ Some (l, r) → IsPart new Left worker l left → IsPart new Right worker r right
    → LotsPaired k l r left right

-- ---- the dependent prefix of owners

-- event l of itag j is counted by the owner of the itag
pub record IsCounted (n : NetNote) (j l : ℕ) : Type 0 where
  pub owner : ℕ
  pub worker : WorkerNote
  pub at : slice_get n.workers owner ≡ Some worker
  pub owns : own (job n.case) (nodes n.case) owner j ≡ true
  pub there : l < slice_index worker.counts j

-- WHAT OWNERS COUNTED IS A PREFIX: after any list of steps, if the owner of an event counted it, each earlier event on which it depends is counted by its owner
abbrev pub OwnersCountPrefixes : Type 0
OwnersCountPrefixes =
    (k : Content) (old new : NetNote) (steps : List Step) (i m j l : ℕ) (x y : Event) → IsStart k old → Runs steps old new
    → IsEventAt (setting_of k) i m x → IsEventAt (setting_of k) j l y → itags_depend (job k) (itag i) (itag j) ≡ true → is_before y x ≡ true
    → IsCounted new i m → IsCounted new j l
