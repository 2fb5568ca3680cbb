-- Where events stand among items.
use Rattle.std.proofs.Common.{◌≡◌, ◌<◌, ◌≤◌, ◌+◌, ℕ, zero, suc, true, false, Some, List, [], ◌∷◌, length, take, drop, get_or, refl, sym, ap, ◌∙◌, arith}
use Rattle.std.specs.Prelude.{slice_get}
use Rattle.std.proofs.lemmas.List.{drop_all}
use Rattle.std.proofs.lemmas.Option.{slice_get-get_or}
use Rattle.flu_model.specs.declared.events.Item.{Item}
use Rattle.flu_model.specs.declared.events.Item.TheVariants.{Event as EventItem, Beat, End}
use Rattle.flu_model.specs.Merging.{events_of}
use Rattle.flu_mail.specs.Passing.{next_event}
use Rattle.flu_mail.specs.Places.{place_of, is_event, event_in}

pub events_fit : (items : List Item) → length (events_of items) ≤ length items
events_fit [] = omega arith
events_fit (EventItem x ∷ rest) = let h = events_fit rest in omega arith
events_fit (Beat t ∷ rest) = let h = events_fit rest in omega arith
events_fit (End ∷ rest) = let h = events_fit rest in omega arith

pub place_fits : (items : List Item) (count : ℕ) → place_of items count ≤ length items
place_fits [] count = omega arith
place_fits (EventItem x ∷ rest) zero = omega arith
place_fits (EventItem x ∷ rest) (suc count) = let h = place_fits rest count in omega arith
place_fits (Beat t ∷ rest) count = let h = place_fits rest count in omega arith
place_fits (End ∷ rest) count = let h = place_fits rest count in omega arith

-- an event that there is has a place
pub place_there : (items : List Item) (count : ℕ) → count < length (events_of items) → place_of items count < length items
place_there [] count lt = absurd (omega arith)
place_there (EventItem x ∷ rest) zero lt = omega arith
place_there (EventItem x ∷ rest) (suc count) lt = let h = place_there rest count (omega arith) in omega arith
place_there (Beat t ∷ rest) count lt = let h = place_there rest count lt in omega arith
place_there (End ∷ rest) count lt = let h = place_there rest count lt in omega arith

-- the next event is the one at its place, where that was seen
pub next_at_place : (items : List Item) (seen count : ℕ) → event_in (slice_get (take seen items) (place_of items count)) ≡ next_event (take seen items) count
next_at_place [] zero count = refl
next_at_place [] (suc seen) count = refl
next_at_place (item ∷ rest) zero count = refl
next_at_place (EventItem x ∷ rest) (suc seen) zero = refl
next_at_place (EventItem x ∷ rest) (suc seen) (suc count) = next_at_place rest seen count
next_at_place (Beat t ∷ rest) (suc seen) count = next_at_place rest seen count
next_at_place (End ∷ rest) (suc seen) count = next_at_place rest seen count

-- and the pending event is the one at its place
pub pending_at_place : (items : List Item) (count : ℕ) → event_in (slice_get items (place_of items count)) ≡ slice_get (events_of items) count
pending_at_place [] count = refl
pending_at_place (EventItem x ∷ rest) zero = refl
pending_at_place (EventItem x ∷ rest) (suc count) = pending_at_place rest count
pending_at_place (Beat t ∷ rest) count = pending_at_place rest count
pending_at_place (End ∷ rest) count = pending_at_place rest count

-- the event with the next index stands at the first event behind
pub place_step : (items : List Item) (count : ℕ) → count < length (events_of items)
    → place_of items (suc count) ≡ suc (place_of items count) + place_of (drop (suc (place_of items count)) items) 0
place_step [] count lt = absurd (omega arith)
place_step (EventItem x ∷ rest) zero lt = omega arith
place_step (EventItem x ∷ rest) (suc count) lt = let h = place_step rest count (omega arith) in omega arith
place_step (Beat t ∷ rest) count lt = let h = place_step rest count lt in omega arith
place_step (End ∷ rest) count lt = let h = place_step rest count lt in omega arith

-- the first event from a place on, by the item there
pub place_here : (items : List Item) (k : ℕ) (item : Item) → slice_get items k ≡ Some item → is_event item ≡ true → place_of (drop k items) 0 ≡ 0
place_here [] k item e is = cc
place_here (EventItem x ∷ rest) zero item e is = refl
place_here (Beat t ∷ rest) zero item e is = let same : Beat t ≡ item = cc in cc
place_here (End ∷ rest) zero item e is = let same : End ≡ item = cc in cc
place_here (x ∷ rest) (suc k) item e is = place_here rest k item e is

pub place_behind : (items : List Item) (k : ℕ) (item : Item) → slice_get items k ≡ Some item → is_event item ≡ false
    → place_of (drop k items) 0 ≡ suc (place_of (drop (suc k) items) 0)
place_behind [] k item e is = cc
place_behind (EventItem x ∷ rest) zero item e is = let same : EventItem x ≡ item = cc in cc
place_behind (Beat t ∷ rest) zero item e is = refl
place_behind (End ∷ rest) zero item e is = refl
place_behind (x ∷ rest) (suc k) item e is = place_behind rest k item e is

pub event_here : (items : List Item) (k : ℕ) (d : Item) → k < length items → is_event (get_or items k d) ≡ true → place_of (drop k items) 0 ≡ 0
event_here items k d lt is = place_here items k (get_or items k d) (slice_get-get_or items k d lt) is

pub event_behind : (items : List Item) (k : ℕ) (d : Item) → k < length items → is_event (get_or items k d) ≡ false
    → place_of (drop k items) 0 ≡ suc (place_of (drop (k + 1) items) 0)
event_behind items k d lt is =
    let next : k + 1 ≡ suc k = omega arith in
    place_behind items k (get_or items k d) (slice_get-get_or items k d lt) is ∙ ap (λ n. suc (place_of (drop n items) 0)) (sym next)

pub none_behind : (items : List Item) (k : ℕ) → length items ≤ k → place_of (drop k items) 0 ≡ 0
none_behind items k le = ap (λ is. place_of is 0) (drop_all k items le)

-- one step on
pub place_after_one : (items : List Item) (count place next : ℕ) → count < length (events_of items) → place ≡ place_of items count
    → next ≡ place + 1 + place_of (drop (place + 1) items) 0 → next ≡ place_of items (count + 1)
place_after_one items count place next lt at is =
    let one : count + 1 ≡ suc count = omega arith in
    let more : place + 1 ≡ suc (place_of items count) = omega arith in
    is ∙ ap (λ n. n + place_of (drop n items) 0) more ∙ sym (place_step items count lt) ∙ ap (place_of items) (sym one)
