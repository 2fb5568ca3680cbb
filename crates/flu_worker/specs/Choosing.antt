-- Which event a worker takes next, which one it aims at, and when it may give its lot. These are functions of what contracts see of it.
use Rattle.std.specs.Prelude.{ℕ, Bool, false, ◌==◌, ◌&&◌, Option, Some, None, List, slice_get, slice_index, if◌then◌else◌, is_none}
use Rattle.std.specs.List.{fold}
use Rattle.flu_model.specs.declared.events.Event.{Event}
use Rattle.flu_model.specs.declared.events.Itag.{Itag}
use Rattle.flu_model.specs.Listed.{listed}
use Rattle.flu_model.specs.Merging.{is_before}
use Rattle.flu_model.specs.Owners.{owns, ancestors_own}
use Rattle.flu_fork.specs.declared.content.Content.{Content}
use Rattle.flu_fork.specs.declared.lots.Ask.{Ask}
use Rattle.flu_fork.specs.Lots.{job, nodes, kids, setting_of}
use Rattle.flu_fork.specs.Settings.{events_at}
use Rattle.flu_mail.specs.declared.mailbox.Mailbox.{Mailbox}
use Rattle.flu_mail.specs.Mailboxes.{seen_of, counts_of}
use Rattle.flu_mail.specs.Passing.{seen_items, next_event}
use Rattle.flu_mail.specs.Waiting.{is_ready, is_ready_to_serve}
use Rattle.flu_tables.specs.Lists.{itags_where}
use Rattle.flu_worker.specs.declared.hand.Hand.{Hand}
use Rattle.flu_worker.specs.Hands.{is_whole, is_down}
use Rattle.flu_worker.specs.Notes.{WorkerNote, above_of}

-- what a worker has seen and counted, at its node of a case
pub record Sight : Type 0 where
  pub case : Content
  pub node : ℕ
  pub seen : List ℕ
  pub counts : List ℕ

abbrev pub sight : WorkerNote → Sight
sight n = record { case = n.case; node = n.node; seen = n.seen; counts = n.counts }

abbrev pub sight_at : Content → ℕ → Mailbox → Sight
sight_at k w mail = record { case = k; node = w; seen = seen_of mail; counts = counts_of mail }

-- ---- events

-- the itags of the node, and those of the nodes above it, by rising number
abbrev pub own_itags : Content → ℕ → List Itag
own_itags k w = itags_where (job k) (owns (job k) (nodes k) w)

abbrev pub above_itags : Content → ℕ → List Itag
above_itags k w = itags_where (job k) (ancestors_own (job k) (nodes k) w)

-- the next event of an itag: the first one that is seen and not counted
abbrev pub next_at : Sight → Itag → Option Event
next_at s i = next_event (seen_items (listed s.case.streams) s.seen i.0) (slice_index s.counts i.0)

-- the worker may take its own event x by what it has seen
abbrev pub takes : Sight → Event → Bool
takes s x = is_ready (job s.case) (nodes s.case) (listed s.case.streams) s.node s.seen s.counts x

-- an event, if there is one and the worker may take it
abbrev pub if_ready : Sight → Option Event → Option Event
if_ready s None = None
if_ready s (Some x) = if takes s x then Some x else None

-- the event that y names, seen or not
abbrev pub event_of : Content → Ask → Option Event
event_of k y = slice_get (events_at (setting_of k) y.itag.0) y.index

-- there is such an event, and the worker may give up its lot for it by what it has seen
abbrev pub serves : Sight → Option Event → Bool
serves s None = false
serves s (Some x) = is_ready_to_serve (job s.case) (nodes s.case) (listed s.case.streams) s.node s.seen s.counts x

-- the earlier of two events in event order, of those that are present
abbrev pub earlier : Option Event → Option Event → Option Event
earlier None b = b
earlier (Some x) None = Some x
earlier (Some x) (Some y) = if is_before y x then Some y else Some x

-- the earliest of the events of some itags, of those that are present
abbrev pub earliest : (Itag → Option Event) → List Itag → Option Event
earliest f itags = fold (λ found i. earlier found (f i)) None itags

-- the least next event of the node's own itags
abbrev pub least_next : Sight → Option Event
least_next s = earliest (next_at s) (own_itags s.case s.node)

-- the least one of those that the worker may take
abbrev pub least_ready : Sight → Option Event
least_ready s = earliest (λ i. if_ready s (next_at s i)) (own_itags s.case s.node)

-- ---- asks

-- the name of a next event
abbrev pub ask_for : Sight → Option Event → Option Ask
ask_for s None = None
ask_for s (Some x) = Some (record { itag = x.itag; index = slice_index s.counts x.itag.0 })

-- the kept target, if it is the worker's own
abbrev pub if_own : Sight → Option Ask → Option Ask
if_own s None = None
if_own s (Some y) = if owns (job s.case) (nodes s.case) s.node y.itag then Some y else None

-- what is asked, if the worker may serve it
abbrev pub if_serves : Sight → Option Ask → Option Ask
if_serves s None = None
if_serves s (Some y) = if serves s (event_of s.case y) then Some y else None

abbrev pub is_same_ask : Ask → Option Ask → Bool
is_same_ask y None = false
is_same_ask y (Some x) = (x.itag.0 == y.itag.0) && (x.index == y.index)

abbrev pub first_some : Option Ask → Option Ask → Option Ask
first_some None b = b
first_some (Some y) b = Some y

-- ---- what the worker does, by what it has seen, its hand and its kept target

-- HANDLE: the event that it takes next, if its hand is whole: at a leaf the least own next event that it may take, at an inner worker its target, if that is
-- its own. As a relation that determines it: laws::next_events_are_least
abbrev pub next_by : Sight → Hand → Option Ask → Option Ask
next_by s hand kept = if is_whole hand then (if is_none (kids s.case s.node) then ask_for s (least_ready s) else if_own s kept) else None

abbrev pub next_of : WorkerNote → Option Ask
next_of n = next_by (sight n) n.hand n.kept

-- TARGET: the kept one; or if both parts are lent, the least next event of its own, if it may take that, or what is asked of it, if it may serve that
abbrev pub new_target : Sight → Option Ask → Option Ask
new_target s asked = first_some (ask_for s (if_ready s (least_next s))) (if_serves s asked)

abbrev pub target_by : Sight → Hand → Option Ask → Option Ask → Option Ask
target_by s hand kept asked = first_some kept (if is_down hand then new_target s asked else None)

abbrev pub target_of : WorkerNote → Option Ask → Option Ask
target_of n asked = target_by (sight n) n.hand n.kept asked

-- GIVE: its hand is whole, and a leaf may serve the event that y names, while an inner worker has it as its target
abbrev pub gives_by : Sight → Hand → Option Ask → Ask → Bool
gives_by s hand kept y = is_whole hand && (if is_none (kids s.case s.node) then serves s (event_of s.case y) else is_same_ask y kept)

-- if it is the next event of an itag above the worker
abbrev pub may_give : WorkerNote → Ask → Bool
may_give n y = above_of n y.itag.0 && (y.index == slice_index n.held.upto y.itag.0) && gives_by (sight n) n.hand n.kept y
