-- What passing says of the events that are not counted.
use Rattle.std.proofs.Common.{◌≡◌, ◌<◌, ◌≤◌, ◌+◌, ◌-◌, ℕ, zero, suc, true, false, Option, Some, None}
use Rattle.std.proofs.Common.{List, [], ◌∷◌, length, take, refl, sym, ap, subst, ◌∙◌, inl, inr, arith}
use Rattle.std.specs.Prelude.{◌⊎◌, ◌≢◌, slice_get, nat_le, ◌==◌, ◌&&◌}
use Rattle.std.proofs.lemmas.Grind.{common_steps}
use Rattle.flu_lemmas.proofs.Tests.{and_left, and_right, true_le, le_true, true_eq}
use Rattle.flu_lemmas.proofs.InTime.{in_time}
use Rattle.flu_model.specs.declared.events.Event.{Event}
use Rattle.flu_model.specs.declared.events.Item.{Item}
use Rattle.flu_model.specs.declared.events.Item.TheVariants.{Event as EventItem, Beat, End}
use Rattle.flu_model.specs.Merging.{is_before, events_of}
use Rattle.flu_model.specs.Streaming.{is_stream_from}
use Rattle.flu_mail.specs.Passing.{next_event, time_passes, last_passes, passes_with, passes}

-- ---- event order

pub before_in_time : (x y : Event) → is_before x y ≡ true → x.time ≤ y.time
before_in_time x y e = grind (arith, common_steps)

pub before_or_after : (x y : Event) → x.itag.0 ≢ y.itag.0 → is_before y x ≡ false → is_before x y ≡ true
before_or_after x y other e = grind (arith, common_steps)

-- ---- streams

-- an event of a stream from a time on
pub event_of_stream : (i low : ℕ) (items : List Item) (k : ℕ) (y : Event) → is_stream_from i low items ≡ true → slice_get (events_of items) k ≡ Some y
    → (low ≤ y.time) × (y.itag.0 ≡ i)
event_of_stream i low [] k y s e = cc
event_of_stream i low (EventItem x ∷ rest) zero y s e =
    let same : x ≡ y = cc in
    let own = true_eq x.itag.0 i (and_left (x.itag.0 == i) _ (and_left (x.itag.0 == i && nat_le low x.time) _ s)) in
    let late = true_le low x.time (and_right (x.itag.0 == i) _ (and_left (x.itag.0 == i && nat_le low x.time) _ s)) in
    subst (λ (z : Event). (low ≤ z.time) × (z.itag.0 ≡ i)) same (late, own)
event_of_stream i low (EventItem x ∷ rest) (suc k) y s e =
    let late = true_le low x.time (and_right (x.itag.0 == i) _ (and_left (x.itag.0 == i && nat_le low x.time) _ s)) in
    let h = event_of_stream i (x.time + 1) rest k y (and_right (x.itag.0 == i && nat_le low x.time) _ s) e in
    (omega arith, h.1)
event_of_stream i low (Beat t ∷ rest) k y s e =
    let late = true_le low t (and_left (nat_le low t) _ s) in
    let h = event_of_stream i (t + 1) rest k y (and_right (nat_le low t) _ s) e in
    (omega arith, h.1)
event_of_stream i low (End ∷ []) k y s e = cc
event_of_stream i low (End ∷ x ∷ rest) k y s e = cc

-- what is among the seen items is among all
pub still_there : (items : List Item) (seen k : ℕ) (y : Event) → slice_get (events_of (take seen items)) k ≡ Some y → slice_get (events_of items) k ≡ Some y
still_there [] zero k y e = e
still_there [] (suc seen) k y e = e
still_there (item ∷ rest) zero k y e = cc
still_there (EventItem x ∷ rest) (suc seen) zero y e = e
still_there (EventItem x ∷ rest) (suc seen) (suc k) y e = still_there rest seen k y e
still_there (Beat t ∷ rest) (suc seen) k y e = still_there rest seen k y e
still_there (End ∷ rest) (suc seen) k y e = still_there rest seen k y e

-- ---- the first of the items

without_first : (item : Item) (rest : List Item) (next : Option Event) (x : Event) → passes_with (item ∷ rest) next x ≡ true
    → (passes_with rest next x ≡ true) ⊎ (time_passes x.time item ≡ true)
without_first item rest (Some y) x h = inl h
without_first item [] None x h = inr h
without_first item (next ∷ rest) None x h = inl h

with_first : (item : Item) (rest : List Item) (next : Option Event) (x : Event) → passes_with rest next x ≡ true → passes_with (item ∷ rest) next x ≡ true
with_first item rest (Some y) x h = h
with_first item [] None x h = cc
with_first item (next ∷ rest) None x h = h

-- ---- passing clears

pub passing_clears : (i low : ℕ) (items : List Item) (seen count : ℕ) (x : Event) (k : ℕ) (y : Event) → is_stream_from i low items ≡ true
    → passes (take seen items) count x ≡ true → count ≤ k → slice_get (events_of items) k ≡ Some y → is_before x y ≡ true
passing_clears i low [] seen count x k y s h le e = cc
passing_clears i low (item ∷ rest) zero count x k y s h le e = cc
passing_clears i low (EventItem z ∷ rest) (suc seen) zero x zero y s h le e = let same : z ≡ y = cc in subst (λ (v : Event). is_before x v ≡ true) same h
passing_clears i low (EventItem z ∷ rest) (suc seen) zero x (suc k) y s h le e =
    let later = event_of_stream i (z.time + 1) rest k y (and_right (z.itag.0 == i && nat_le low z.time) _ s) e in
    let first = before_in_time x z h in
    in_time x.time x.itag.0 y.time y.itag.0 (omega arith)
passing_clears i low (EventItem z ∷ rest) (suc seen) (suc count) x zero y s h le e = absurd (omega arith)
passing_clears i low (EventItem z ∷ rest) (suc seen) (suc count) x (suc k) y s h le e =
    let behind = and_right (z.itag.0 == i && nat_le low z.time) _ s in
    elim (without_first (EventItem z) (take seen rest) (next_event (take seen rest) count) x h) [
      | inl again ↦ passing_clears i (z.time + 1) rest seen count x k y behind again (omega arith) e
      | inr last ↦ (let late = true_le x.time z.time last in let later = event_of_stream i (z.time + 1) rest k y behind e in
          in_time x.time x.itag.0 y.time y.itag.0 (omega arith))
    ]
passing_clears i low (Beat t ∷ rest) (suc seen) count x k y s h le e =
    let behind = and_right (nat_le low t) _ s in
    elim (without_first (Beat t) (take seen rest) (next_event (take seen rest) count) x h) [
      | inl again ↦ passing_clears i (t + 1) rest seen count x k y behind again le e
      | inr last ↦ (let late = true_le x.time t last in let later = event_of_stream i (t + 1) rest k y behind e in
          in_time x.time x.itag.0 y.time y.itag.0 (omega arith))
    ]
passing_clears i low (End ∷ []) (suc seen) count x k y s h le e = cc
passing_clears i low (End ∷ item ∷ rest) (suc seen) count x k y s h le e = cc

-- ---- passing stays

-- the last of an item that passes and of later ones passes
last_of_later : (t i low : ℕ) (item : Item) (items : List Item) (more : ℕ) → is_stream_from i low items ≡ true → t ≤ low → time_passes t item ≡ true
    → last_passes t (item ∷ take more items) ≡ true
last_of_later t i low item [] more s le h = cc
last_of_later t i low item (next ∷ rest) zero s le h = h
last_of_later t i low item (EventItem z ∷ rest) (suc more) s le h =
    let late = true_le low z.time (and_right (z.itag.0 == i) _ (and_left (z.itag.0 == i && nat_le low z.time) _ s)) in
    last_of_later t i (z.time + 1) (EventItem z) rest more (and_right (z.itag.0 == i && nat_le low z.time) _ s) (omega arith) (le_true t z.time (omega arith))
last_of_later t i low item (Beat u ∷ rest) (suc more) s le h =
    let late = true_le low u (and_left (nat_le low u) _ s) in
    last_of_later t i (u + 1) (Beat u) rest more (and_right (nat_le low u) _ s) (omega arith) (le_true t u (omega arith))
last_of_later t i low item (End ∷ []) (suc zero) s le h = refl
last_of_later t i low item (End ∷ []) (suc (suc more)) s le h = refl
last_of_later t i low item (End ∷ next ∷ rest) (suc more) s le h = cc

later_passes : (i low : ℕ) (item : Item) (items : List Item) (more count : ℕ) (x : Event) → is_stream_from i low items ≡ true → x.time < low
    → time_passes x.time item ≡ true → passes_with (item ∷ take more items) (next_event (take more items) count) x ≡ true
later_passes i low item items more count x s lt h = by_next (next_event (take more items) count) refl
  where
    by_next : (next : Option Event) → next_event (take more items) count ≡ next → passes_with (item ∷ take more items) next x ≡ true
    by_next None e = last_of_later x.time i low item items more s (omega arith) h
    by_next (Some y) e = let later = event_of_stream i low items count y s (still_there items more count y e) in
        in_time x.time x.itag.0 y.time y.itag.0 (omega arith)

pub passing_stays : (i low : ℕ) (items : List Item) (seen more count : ℕ) (x : Event) → is_stream_from i low items ≡ true → seen ≤ more
    → passes (take seen items) count x ≡ true → passes (take more items) count x ≡ true
passing_stays i low [] seen more count x s le h = cc
passing_stays i low (item ∷ rest) zero more count x s le h = cc
passing_stays i low (item ∷ rest) (suc seen) zero count x s le h = absurd (omega arith)
passing_stays i low (EventItem z ∷ rest) (suc seen) (suc more) zero x s le h = h
passing_stays i low (EventItem z ∷ rest) (suc seen) (suc more) (suc count) x s le h =
    let behind = and_right (z.itag.0 == i && nat_le low z.time) _ s in
    elim (without_first (EventItem z) (take seen rest) (next_event (take seen rest) count) x h) [
      | inl again ↦ with_first (EventItem z) (take more rest) (next_event (take more rest) count) x
          (passing_stays i (z.time + 1) rest seen more count x behind (omega arith) again)
      | inr last ↦ (let late = true_le x.time z.time last in later_passes i (z.time + 1) (EventItem z) rest more count x behind (omega arith) last)
    ]
passing_stays i low (Beat t ∷ rest) (suc seen) (suc more) count x s le h =
    let behind = and_right (nat_le low t) _ s in
    elim (without_first (Beat t) (take seen rest) (next_event (take seen rest) count) x h) [
      | inl again ↦ with_first (Beat t) (take more rest) (next_event (take more rest) count) x
          (passing_stays i (t + 1) rest seen more count x behind (omega arith) again)
      | inr last ↦ (let late = true_le x.time t last in later_passes i (t + 1) (Beat t) rest more count x behind (omega arith) last)
    ]
passing_stays i low (End ∷ []) (suc seen) (suc zero) count x s le h = refl
passing_stays i low (End ∷ []) (suc seen) (suc (suc more)) count x s le h = refl
passing_stays i low (End ∷ next ∷ rest) (suc seen) (suc more) count x s le h = cc

-- ---- when all is seen

-- the end passes every time
ends_pass : (t i low : ℕ) (items : List Item) → is_stream_from i low items ≡ true → last_passes t items ≡ true
ends_pass t i low [] s = cc
ends_pass t i low (EventItem z ∷ []) s = let none = and_right (z.itag.0 == i && nat_le low z.time) false s in cc
ends_pass t i low (EventItem z ∷ next ∷ rest) s = ends_pass t i (z.time + 1) (next ∷ rest) (and_right (z.itag.0 == i && nat_le low z.time) _ s)
ends_pass t i low (Beat u ∷ []) s = let none = and_right (nat_le low u) false s in cc
ends_pass t i low (Beat u ∷ next ∷ rest) s = ends_pass t i (u + 1) (next ∷ rest) (and_right (nat_le low u) _ s)
ends_pass t i low (End ∷ []) s = refl
ends_pass t i low (End ∷ next ∷ rest) s = cc

pub passes_when_clear : (i low : ℕ) (items : List Item) (count : ℕ) (x : Event) → is_stream_from i low items ≡ true
    → ((y : Event) → slice_get (events_of items) count ≡ Some y → is_before x y ≡ true) → passes items count x ≡ true
passes_when_clear i low items count x s clear = by_next (next_event items count) refl
  where
    by_next : (next : Option Event) → next_event items count ≡ next → passes_with items next x ≡ true
    by_next None e = ends_pass x.time i low items s
    by_next (Some y) e = clear y e

-- ---- the last item

pub last_passes_last : (t : ℕ) (items : List Item) (item : Item) → slice_get items (length items - 1) ≡ Some item → last_passes t items ≡ time_passes t item
last_passes_last t [] item e = cc
last_passes_last t (x ∷ []) item e = let same : x ≡ item = cc in ap (time_passes t) same
last_passes_last t (x ∷ y ∷ rest) item e =
    let place : length (x ∷ y ∷ rest) - 1 ≡ suc (length (y ∷ rest) - 1) = omega arith in
    last_passes_last t (y ∷ rest) item (ap (slice_get (x ∷ y ∷ rest)) (sym place) ∙ e)
