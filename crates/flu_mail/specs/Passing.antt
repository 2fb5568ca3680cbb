-- PASSING: which events an itag lets pass, by what was seen and counted of it.
use Rattle.std.specs.Prelude.{ℕ, Bool, true, false, nat_le, Option, Some, None, List, [], ◌∷◌, slice_get, slice_index, slice_index_or, take}
use Rattle.flu_model.specs.declared.events.Event.{Event}
use Rattle.flu_model.specs.declared.events.Item.{Item}
use Rattle.flu_model.specs.declared.events.Item.TheVariants.{Event as EventItem, Beat, End}
use Rattle.flu_model.specs.Merging.{is_before, events_of}

-- the items of an itag that were seen
abbrev pub seen_items : List (List Item) → List ℕ → ℕ → List Item
seen_items lists seen j = take (slice_index seen j) (slice_index_or lists j [])

-- the first event that is seen and not counted
abbrev pub next_event : List Item → ℕ → Option Event
next_event items count = slice_get (events_of items) count

-- the first event of an itag that is not counted, seen or not
abbrev pub pending_event : List (List Item) → List ℕ → ℕ → Option Event
pending_event lists counts i = slice_get (events_of (slice_index_or lists i [])) (slice_index counts i)

-- the end, or a time that is at least this one
abbrev pub time_passes : ℕ → Item → Bool
time_passes t (EventItem x) = nat_le t x.time
time_passes t (Beat u) = nat_le t u
time_passes t End = true

-- the last item is the end, or its time is at least this one
abbrev pub last_passes : ℕ → List Item → Bool
last_passes t [] = false
last_passes t (x ∷ []) = time_passes t x
last_passes t (x ∷ y ∷ rest) = last_passes t (y ∷ rest)

abbrev pub passes_with : List Item → Option Event → Event → Bool
passes_with items None x = last_passes x.time items
passes_with items (Some y) x = is_before x y

-- an itag lets x pass: its next event is after x; or there is none, and the end was seen or the last seen item's time is at least x's
abbrev pub passes : List Item → ℕ → Event → Bool
passes items count x = passes_with items (next_event items count) x
