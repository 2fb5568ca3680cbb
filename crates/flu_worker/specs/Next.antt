-- NEXT: which event a worker takes next, as a relation.
use Rattle.std.specs.Prelude.{◌≡◌, ◌↔◌, ◌<◌, true, false, Some, None, slice_index, IsSome}
use Rattle.flu_model.specs.declared.events.Event.{Event}
use Rattle.flu_model.specs.Itags.{count_of_itags}
use Rattle.flu_model.specs.Merging.{is_before}
use Rattle.flu_fork.specs.declared.lots.Ask.{Ask}
use Rattle.flu_fork.specs.declared.lots.Lot.{Lot}
use Rattle.flu_fork.specs.Lots.{job, kids, setting_of}
use Rattle.flu_fork.specs.Streams.{IsEventAt}
use Rattle.flu_worker.specs.declared.hand.Hand.TheVariants.{Whole}
use Rattle.flu_worker.specs.declared.holding.Holding.TheVariants.{Whole as WholeLot}
use Rattle.flu_worker.specs.Agreeing.{IsExactFor, IsFirstOf}
use Rattle.flu_worker.specs.Choosing.{Sight, sight, next_at, takes, next_of}
use Rattle.flu_worker.specs.Hands.{is_whole}
use Rattle.flu_worker.specs.Keeping.{HasRule}
use Rattle.flu_worker.specs.Laws.{own_by}
use Rattle.flu_worker.specs.Notes.{WorkerNote, own_of, above_of}

-- READY: an own event of the worker, the first of its itag that is seen and not counted, that waits for no other itag
pub record IsReadyOwn (s : Sight) (x : Event) : Type 0 where
  pub known : x.itag.0 < count_of_itags (job s.case)
  pub own : own_by s x.itag.0 ≡ true
  pub next : next_at s x.itag ≡ Some x
  pub ready : takes s x ≡ true

-- THE LEAST of them: no other own event that is ready is before it
pub record IsLeastReady (s : Sight) (x : Event) : Type 0 where
  pub is : IsReadyOwn s x
  pub least : (y : Event) → IsReadyOwn s y → is_before y x ≡ false

-- the name of an event that is the next one of its itag by the counts
abbrev pub name_of : Sight → Event → Ask
name_of s x = record { itag = x.itag; index = slice_index s.counts x.itag.0 }

pub record IsLeast (s : Sight) (a : Ask) : Type 0 where
  pub event : Event
  pub is : IsLeastReady s event
  pub name : a ≡ name_of s event

-- ---- the laws

-- THE LEAST IS ONE: no two events are the least own event that is ready
abbrev pub LeastIsOne : Type 0
LeastIsOne = (s : Sight) (x y : Event) → IsLeastReady s x → IsLeastReady s y → x ≡ y

-- AT A LEAF that has its lot, what it takes next is the least own event that is ready
abbrev pub LeavesTakeTheLeast : Type 0
LeavesTakeTheLeast = (n : WorkerNote) (a : Ask) → n.hand ≡ Whole → kids n.case n.node ≡ None → (next_of n ≡ Some a) ↔ IsLeast (sight n) a

-- and nothing if no own event is ready
abbrev pub LeavesTakeNothing : Type 0
LeavesTakeNothing = (n : WorkerNote) → n.hand ≡ Whole → kids n.case n.node ≡ None → (next_of n ≡ None) ↔ ((x : Event) → IsReadyOwn (sight n) x → ⊥)

-- AN INNER WORKER that has its lot takes the target that it keeps, if that is its own
abbrev pub OthersTakeTheTarget : Type 0
OthersTakeTheTarget =
    (n : WorkerNote) (a : Ask) → n.hand ≡ Whole → IsSome (kids n.case n.node) → (next_of n ≡ Some a) ↔ ((n.kept ≡ Some a) × (own_of n a.itag.0 ≡ true))

-- and no uncounted event of its own itags or of the itags above, seen or not, is before that
pub record IsFirst (n : WorkerNote) (a : Ask) : Type 0 where
  pub event : Event
  pub is : IsEventAt (setting_of n.case) a.itag.0 a.index event
  pub own : IsFirstOf (setting_of n.case) (own_of n) n.counts event
  pub above : IsFirstOf (setting_of n.case) (above_of n) n.counts event

abbrev pub TargetsAreFirst : Type 0
TargetsAreFirst = (n : WorkerNote) (a : Ask) → HasRule n → IsSome (kids n.case n.node) → next_of n ≡ Some a → IsFirst n a

-- A WORKER WITHOUT ITS WHOLE LOT takes nothing
abbrev pub NothingWithoutTheLot : Type 0
NothingWithoutTheLot = (n : WorkerNote) → is_whole n.hand ≡ false → next_of n ≡ None

-- ---- what is taken next is counted with an exact place

-- the lot in the worker's hand has, for each itag on which the event depends, exactly the events before it
pub record IsExactInHand (n : WorkerNote) (a : Ask) : Type 0 where
  pub lot : Lot
  pub here : n.holding ≡ WholeLot lot
  pub event : Event
  pub exact : IsExactFor n.case n.node lot.upto a event

-- EXACT: the event that a worker takes next is one for which the counts of its lot are exact
abbrev pub NextIsExact : Type 0
NextIsExact = (n : WorkerNote) (a : Ask) → HasRule n → next_of n ≡ Some a → IsExactInHand n a
