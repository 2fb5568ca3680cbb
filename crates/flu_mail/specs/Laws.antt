-- What holds of passing and waiting.
use Rattle.std.specs.Prelude.{◌≡◌, ◌≢◌, ◌↔◌, ℕ, ◌<◌, ◌≤◌, true, false, Some, List, [], length, slice_get, slice_index, slice_index_or, take, IsTrue}
use Rattle.flu_model.specs.declared.events.Event.{Event}
use Rattle.flu_model.specs.declared.events.Item.{Item}
use Rattle.flu_model.specs.declared.jobs.Program.{Program}
use Rattle.flu_model.specs.declared.plans.Node.{Node}
use Rattle.flu_model.specs.Itags.{count_of_itags}
use Rattle.flu_model.specs.Owners.{owns}
use Rattle.flu_model.specs.Merging.{is_before, events_of}
use Rattle.flu_model.specs.Streaming.{is_stream_from, are_streams}
use Rattle.flu_mail.specs.Passing.{passes}
use Rattle.flu_mail.specs.Waiting.{waits_for, serving_waits_for, is_ready, is_ready_to_serve}

-- y is among the items as an event that is not counted, seen or not
abbrev pub IsUncounted : List Item → ℕ → Event → Type 0
IsUncounted items count y = (k : ℕ) × (count ≤ k) × (slice_get (events_of items) k ≡ Some y)

-- PASSING CLEARS: where the seen items of a stream let x pass, x is before each of its events that is not counted, seen or not, so none of them is before x
abbrev pub PassingClears : Type 0
PassingClears =
    (i low seen count : ℕ) (items : List Item) (x y : Event)
    → IsTrue (is_stream_from i low items) → passes (take seen items) count x ≡ true → IsUncounted items count y
    → (is_before x y ≡ true) × (is_before y x ≡ false)

-- PASSING STAYS: more seen items let x pass too
abbrev pub PassingStays : Type 0
PassingStays =
    (i low seen more count : ℕ) (items : List Item) (x : Event)
    → IsTrue (is_stream_from i low items) → seen ≤ more → passes (take seen items) count x ≡ true → passes (take more items) count x ≡ true

-- WHEN ALL IS SEEN, a stream lets x pass exactly if x is before each event that is not counted
abbrev pub PassingIsExact : Type 0
PassingIsExact =
    (i low count : ℕ) (items : List Item) (x : Event)
    → IsTrue (is_stream_from i low items) → (passes items count x ≡ true) ↔ ((y : Event) → IsUncounted items count y → is_before x y ≡ true)

-- and for an event of another itag, exactly if no event that is not counted is before x
abbrev pub PassingOthersIsExact : Type 0
PassingOthersIsExact =
    (i low count : ℕ) (items : List Item) (x : Event)
    → IsTrue (is_stream_from i low items) → x.itag.0 ≢ i → (passes items count x ≡ true) ↔ ((y : Event) → IsUncounted items count y → is_before y x ≡ false)

-- at least as much is seen of each itag
abbrev pub SeesMore : List ℕ → List ℕ → Type 0
SeesMore seen more = (j : ℕ) → slice_index seen j ≤ slice_index more j

-- WAITING ENDS ONCE: what is ready stays so when more is seen
abbrev pub ReadyStays : Type 0
ReadyStays =
    (p : Program) (nodes : List Node) (lists : List (List Item)) (w : ℕ) (seen more counts : List ℕ) (x : Event)
    → IsTrue (are_streams 0 lists) → SeesMore seen more → is_ready p nodes lists w seen counts x ≡ true → is_ready p nodes lists w more counts x ≡ true

abbrev pub ReadyToServeStays : Type 0
ReadyToServeStays =
    (p : Program) (nodes : List Node) (lists : List (List Item)) (w : ℕ) (seen more counts : List ℕ) (y : Event)
    → IsTrue (are_streams 0 lists) → SeesMore seen more → is_ready_to_serve p nodes lists w seen counts y ≡ true
    → is_ready_to_serve p nodes lists w more counts y ≡ true

-- READY CLEARS: where node w is ready for x, x is before each event that is not counted, seen or not, of an itag that it waits for
abbrev pub ReadyClears : Type 0
ReadyClears =
    (p : Program) (nodes : List Node) (lists : List (List Item)) (w : ℕ) (seen counts : List ℕ) (x : Event) (j : ℕ) (y : Event)
    → IsTrue (are_streams 0 lists) → is_ready p nodes lists w seen counts x ≡ true
    → j < count_of_itags p → waits_for p nodes w x.itag j ≡ true → IsUncounted (slice_index_or lists j []) (slice_index counts j) y
    → (is_before x y ≡ true) × (is_before y x ≡ false)

-- and the same of an ancestor's event x for which it may be served
abbrev pub ServingClears : Type 0
ServingClears =
    (p : Program) (nodes : List Node) (lists : List (List Item)) (w : ℕ) (seen counts : List ℕ) (x : Event) (j : ℕ) (y : Event)
    → IsTrue (are_streams 0 lists) → is_ready_to_serve p nodes lists w seen counts x ≡ true
    → j < count_of_itags p → serving_waits_for p nodes w x.itag j ≡ true → IsUncounted (slice_index_or lists j []) (slice_index counts j) y
    → (is_before x y ≡ true) × (is_before y x ≡ false)

-- all items are seen
abbrev pub IsAllSeen : List (List Item) → List ℕ → Type 0
IsAllSeen lists seen = (j : ℕ) → length (slice_index_or lists j []) ≤ slice_index seen j

-- THE WAIT ENDS: when all is seen, node w is ready for x where no event that is not counted, of an itag that x waits for, is before x
abbrev pub ReadyWhenClear : Type 0
ReadyWhenClear =
    (p : Program) (nodes : List Node) (lists : List (List Item)) (w : ℕ) (seen counts : List ℕ) (x : Event)
    → IsTrue (are_streams 0 lists) → length lists ≡ count_of_itags p → IsAllSeen lists seen
    → ((j : ℕ) (y : Event) → j < count_of_itags p → waits_for p nodes w x.itag j ≡ true → IsUncounted (slice_index_or lists j []) (slice_index counts j) y
    → is_before y x ≡ false)
    → is_ready p nodes lists w seen counts x ≡ true

-- and the same of an event x of an itag that is not its own
abbrev pub ServingWhenClear : Type 0
ServingWhenClear =
    (p : Program) (nodes : List Node) (lists : List (List Item)) (w : ℕ) (seen counts : List ℕ) (x : Event)
    → IsTrue (are_streams 0 lists) → length lists ≡ count_of_itags p → IsAllSeen lists seen → owns p nodes w x.itag ≡ false
    → ((j : ℕ) (y : Event) → j < count_of_itags p → serving_waits_for p nodes w x.itag j ≡ true
    → IsUncounted (slice_index_or lists j []) (slice_index counts j) y → is_before y x ≡ false)
    → is_ready_to_serve p nodes lists w seen counts x ≡ true

-- SEEN EVENTS STAND: an event among the seen items of an itag is the event at the same place among all of its items
abbrev pub SeenEventsStand : Type 0
SeenEventsStand =
    (items : List Item) (seen k : ℕ) (y : Event) → slice_get (events_of (take seen items)) k ≡ Some y → slice_get (events_of items) k ≡ Some y

-- and there are no more events than items
abbrev pub EventsAreItems : Type 0
EventsAreItems = (items : List Item) → length (events_of items) ≤ length items
