-- The order of events, and the merged list of all events.
use Rattle.std.specs.Prelude.{Bool, nat_lt, ◌==◌, ◌&&◌, ◌||◌, List, [], ◌∷◌, IsPermutation, IsSorted}
use Rattle.std.specs.List.{flat_map}
use Rattle.std.specs.Ordering.{nat_cmp, ordering_then}
use Rattle.std.specs.declared.cmp.Ordering.{Ordering}
use Rattle.flu_lemmas.specs.Sorting.{in_order}
use Rattle.flu_model.specs.declared.events.Event.{Event}
use Rattle.flu_model.specs.declared.events.Item.{Item}
use Rattle.flu_model.specs.declared.events.Item.TheVariants.{Event as EventItem, Beat, End}

-- EVENT ORDER: x is before y where x's time, or at equal times its itag's number, is less
abbrev pub is_before : Event → Event → Bool
is_before x y = nat_lt x.time y.time || (x.time == y.time && nat_lt x.itag.0 y.itag.0)

-- the same order as a comparison
abbrev pub event_cmp : Event → Event → Ordering
event_cmp x y = ordering_then (nat_cmp x.time y.time) (nat_cmp x.itag.0 y.itag.0)

-- the events among the items of one itag
abbrev pub events_of : List Item → List Event
events_of [] = []
events_of (EventItem x ∷ rest) = x ∷ events_of rest
events_of (Beat t ∷ rest) = events_of rest
events_of (End ∷ rest) = events_of rest

-- all events of all itags, itag by itag
abbrev pub all_events : List (List Item) → List Event
all_events lists = flat_map events_of lists

-- MERGED LIST: all events of all itags, sorted by event order
pub record IsMerged (lists : List (List Item)) (events : List Event) : Type 0 where
  pub all : IsPermutation (all_events lists) events
  pub sorted : IsSorted event_cmp events

-- the merged list by a plain, slow program
abbrev pub merged : List (List Item) → List Event
merged lists = in_order is_before (all_events lists)
