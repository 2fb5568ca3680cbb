-- Lists of items.
use Rattle.std.specs.Prelude.{ℕ, Bool, true, false, List, [], map, slice_index_or, Vec, Option, Some, None, ◌==◌, if◌then◌else◌}
use Rattle.std.specs.Global.{Global}
use Rattle.flu_model.specs.declared.events.Item.{Item}
use Rattle.flu_model.specs.declared.events.Item.TheVariants.{Event as EventItem, Beat as BeatItem, End as EndItem}

abbrev pub lists_in : Vec (Vec Item Global) Global → List (List Item)
lists_in lists = map (λ v. v.items) lists.items

-- the items of the list at a place
abbrev pub items_of_list : Vec (Vec Item Global) Global → ℕ → List Item
items_of_list lists i = slice_index_or (lists_in lists) i []

-- the time of an event or a heartbeat
abbrev pub item_time : Item → ℕ
item_time (EventItem x) = x.time
item_time (BeatItem t) = t
item_time EndItem = 0

abbrev pub times_in : List Item → List ℕ
times_in items = map item_time items

-- the item that an event or a heartbeat is for the itag with this number
abbrev pub item_for : ℕ → Item → Option Item
item_for itag (EventItem x) = if x.itag.0 == itag then Some (EventItem x) else None
item_for itag (BeatItem t) = Some (BeatItem t)
item_for itag EndItem = None

-- the item is an event of the itag with this number, or a heartbeat
abbrev pub is_own : ℕ → Item → Bool
is_own itag (EventItem x) = x.itag.0 == itag
is_own itag (BeatItem t) = true
is_own itag EndItem = false
