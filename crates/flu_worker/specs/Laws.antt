-- Laws about the choices of a worker.
use Rattle.std.specs.Prelude.{◌≡◌, ◌⊎◌, ℕ, ◌≤◌, true, false, Option, Some, None, slice_index, IsSome}
use Rattle.flu_model.specs.declared.events.Event.{Event}
use Rattle.flu_model.specs.Listed.{listed}
use Rattle.flu_fork.specs.declared.lots.Ask.{Ask}
use Rattle.flu_fork.specs.Classes.{Itags, own, above}
use Rattle.flu_fork.specs.Lots.{job, nodes, kids, setting_of}
use Rattle.flu_fork.specs.Serving.{AsksAbove}
use Rattle.flu_fork.specs.Streams.{IsEventAt}
use Rattle.flu_fork.specs.Texts.{IsComplete}
use Rattle.flu_mail.specs.Laws.{IsAllSeen}
use Rattle.flu_worker.specs.Agreeing.{IsFirstOf}
use Rattle.flu_worker.specs.Choosing.{Sight, least_next, least_ready, if_ready, takes, event_of, serves, new_target}

-- ONE TARGET: an inner worker that may take its least next event may not serve the next event of an itag above it
abbrev pub TargetsAreOne : Type 0
TargetsAreOne =
    (s : Sight) (x : Event) (y : Ask)
    → IsSome (kids s.case s.node) → if_ready s (least_next s) ≡ Some x
    → AsksAbove s.case s.node y → y.index ≡ slice_index s.counts y.itag.0 → serves s (event_of s.case y) ≡ false

-- A NEW TARGET is of an own itag, or it is what is asked
abbrev pub NewTargets : Type 0
NewTargets = (s : Sight) (asked : Option Ask) (y : Ask) → new_target s asked ≡ Some y
    → (own (job s.case) (nodes s.case) s.node y.itag.0 ≡ true) ⊎ (asked ≡ Some y)

-- ---- when all is seen

abbrev pub AllSeen : Sight → Type 0
AllSeen s = IsAllSeen (listed s.case.streams) s.seen

abbrev pub own_by : Sight → Itags
own_by s = own (job s.case) (nodes s.case) s.node

abbrev pub above_by : Sight → Itags
above_by s = above (job s.case) (nodes s.case) s.node

-- the worker may take its least next event
pub record HasReady (s : Sight) : Type 0 where
  pub least : Event
  pub next : least_next s ≡ Some least
  pub ready : takes s least ≡ true
  pub found : least_ready s ≡ Some least

-- ASKED WORKERS GO ON: if an event of an itag above is asked for, and no uncounted event of these itags is before it, the worker may take its least next event,
-- or serve what is asked
abbrev pub AskedGoOn : Type 0
AskedGoOn =
    (s : Sight) (y : Ask) (x : Event) → AllSeen s → AsksAbove s.case s.node y → IsEventAt (setting_of s.case) y.itag.0 y.index x
    → IsFirstOf (setting_of s.case) (above_by s) s.counts x → HasReady s ⊎ (serves s (event_of s.case y) ≡ true)

-- WORKERS GO ON: if all events of the itags above are counted, and one of its own is not, the worker may take its least next event
abbrev pub OwnGoOn : Type 0
OwnGoOn =
    (s : Sight) (j l : ℕ) (y : Event) → AllSeen s → own_by s j ≡ true → slice_index s.counts j ≤ l → IsEventAt (setting_of s.case) j l y
    → IsComplete (setting_of s.case) (above_by s) s.counts → HasReady s

-- NOTHING IS NEXT if all events of the own itags are counted
pub record HasNoNext (s : Sight) : Type 0 where
  pub next : least_next s ≡ None
  pub ready : least_ready s ≡ None

abbrev pub NothingIsNext : Type 0
NothingIsNext = (s : Sight) → IsComplete (setting_of s.case) (own_by s) s.counts → HasNoNext s
