-- The places of the events of an itag among its items.
use Rattle.std.specs.Prelude.{ℕ, zero, suc, Bool, true, false, Option, Some, None, List, [], ◌∷◌}
use Rattle.flu_model.specs.declared.events.Event.{Event}
use Rattle.flu_model.specs.declared.events.Item.{Item}
use Rattle.flu_model.specs.declared.events.Item.TheVariants.{Event as EventItem, Beat, End}

-- how many items come before the event with this index; all if there is none
abbrev pub place_of : List Item → ℕ → ℕ
place_of [] count = 0
place_of (EventItem x ∷ rest) zero = 0
place_of (EventItem x ∷ rest) (suc count) = suc (place_of rest count)
place_of (Beat t ∷ rest) count = suc (place_of rest count)
place_of (End ∷ rest) count = suc (place_of rest count)

abbrev pub is_event : Item → Bool
is_event (EventItem x) = true
is_event (Beat t) = false
is_event End = false

-- the event that an item is
abbrev pub event_in : Option Item → Option Event
event_in None = None
event_in (Some (EventItem x)) = Some x
event_in (Some (Beat t)) = None
event_in (Some End) = None

-- the time of an event; 0 if there is none
abbrev pub time_in : Option Event → ℕ
time_in None = 0
time_in (Some x) = x.time
