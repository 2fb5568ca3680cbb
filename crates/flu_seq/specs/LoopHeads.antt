-- The next events of the itags, and what is still to come.
use Rattle.std.specs.Prelude.{◌≡◌, ℕ, ◌+◌, ◌<◌, ◌≤◌, Bool, true, cond, nat_le, nat_lt, ◌==◌, ◌&&◌, ◌⊎◌, Option, Some, None, List, [], ◌∷◌, ◌++◌, length, drop}
use Rattle.std.specs.Prelude.{slice_index_or, ⊤}
use Rattle.std.specs.List.{flat_map, AllByRecursion}
use Rattle.std.specs.List.Sorted.{IsPermutation}
use Rattle.std.specs.Ordering.{nat_cmp, int_cmp, ordering_then}
use Rattle.std.specs.BinaryHeap.{heap_items, IsHeap, IsUpperBound, KeepsHeap}
use Rattle.std.specs.declared.cmp.Ordering.{Ordering}
use Rattle.std.specs.declared.cmp.Reverse.{Reverse}
use Rattle.flu_lemmas.specs.Totals.{total}
use Rattle.flu_model.specs.declared.events.Event.{Event}
use Rattle.flu_model.specs.declared.events.Item.{Item}
use Rattle.flu_model.specs.Listed.{listed}
use Rattle.flu_model.specs.Merging.{all_events, events_of, is_before, IsMerged}
use Rattle.flu_seq.specs.declared.coming.Coming.{Coming}
use Rattle.flu_seq.specs.declared.coming.Head.{Head}

abbrev pub event_at : Head → Event
event_at h = record { time = h.time; itag = record { 0 = h.itag }; item = h.item; value = h.value }

-- the items of an itag
abbrev pub items_at : List (List Item) → ℕ → List Item
items_at lists i = slice_index_or lists i []

-- the events of the head's itag, from the head on
abbrev pub rest_of : List (List Item) → Head → List Event
rest_of lists h = event_at h ∷ events_of (drop h.place (items_at lists h.itag))

-- the events of all heads' itags, from the heads on
abbrev pub pending : List (List Item) → List (Reverse Head) → List Event
pending lists hs = flat_map (λ r. rest_of lists r.0) hs

-- events of an itag whose times rise from `low` on
abbrev pub is_run : ℕ → ℕ → List Event → Bool
is_run i low [] = true
is_run i low (x ∷ xs) = (x.itag.0 == i) && nat_le low x.time && is_run i (x.time + 1) xs

-- the head is in its itag's list, and what comes after it rises
abbrev pub is_good : List (List Item) → Reverse Head → Bool
is_good lists r =
    nat_lt r.0.itag (length lists) && nat_le r.0.place (length (items_at lists r.0.itag)) && is_run r.0.itag 0 (rest_of lists r.0)

-- how many heads an itag has
abbrev pub heads_of : ℕ → List (Reverse Head) → ℕ
heads_of i hs = total (λ r. cond (r.0.itag == i) 1 0) hs

-- the least event first
abbrev pub head_cmp : Reverse Head → Reverse Head → Ordering
head_cmp a b =
    ordering_then (nat_cmp b.0.time a.0.time)
    (ordering_then (nat_cmp b.0.itag a.0.itag)
    (ordering_then (nat_cmp b.0.item a.0.item) (ordering_then (int_cmp b.0.value a.0.value) (nat_cmp b.0.place a.0.place))))

-- the heads are a heap of good ones, at most one of each itag
pub record Ready (lists : List (List Item)) (hs : List (Reverse Head)) : Type 0 where
  pub in_heap : IsHeap head_cmp hs
  pub good : AllByRecursion (λ r. is_good lists r ≡ true) hs
  pub own : (i : ℕ) → heads_of i hs ≤ 1

-- the first heads: nothing of the lists is missing
pub record Starts (lists : List (List Item)) (hs : List (Reverse Head)) : Type 0 where
  pub ready : Ready lists hs
  pub totals : (f : Event → ℕ) → total f (pending lists hs) ≡ total f (all_events lists)

-- the next event of an itag, from a place on, joins the heads, if there is one
abbrev pub Adds : List (List Item) → ℕ → ℕ → List (Reverse Head) → List (Reverse Head) → Type 0
Adds lists i from old new =
    ((events_of (drop from (items_at lists i)) ≡ []) × (new ≡ old))
    ⊎ ((h : Head) × ((events_of (drop from (items_at lists i)) ≡ event_at h ∷ events_of (drop h.place (items_at lists i)))
    × (h.place ≤ length (items_at lists i)) × IsPermutation (record { 0 = h } ∷ old) new × KeepsHeap head_cmp old new))

-- the first of the heads leaves them, if there is one
pub record Takes (old new : List (Reverse Head)) (h : Head) : Type 0 where
  pub same : IsPermutation old (record { 0 = h } ∷ new)
  pub heap : KeepsHeap head_cmp old new
  pub first : IsHeap head_cmp old → IsUpperBound head_cmp (record { 0 = h }) new

abbrev pub Pops : List (Reverse Head) → List (Reverse Head) → Option Head → Type 0
Pops old new None = (old ≡ []) × (new ≡ [])
Pops old new (Some h) = Takes old new h

-- ---- the next head apart from the others
abbrev pub all_heads : Option Head → List (Reverse Head) → List (Reverse Head)
all_heads None others = others
all_heads (Some h) others = record { 0 = h } ∷ others

-- its event is before those of the others; where there is none, there are no others
abbrev pub Leads : Option Head → List (Reverse Head) → Type 0
Leads None others = others ≡ []
Leads (Some h) others = AllByRecursion (λ r. is_before (event_at h) (event_at r.0) ≡ true) others

pub record IsNext (lists : List (List Item)) (next : Option Head) (others : List (Reverse Head)) : Type 0 where
  pub in_heap : IsHeap head_cmp others
  pub good : AllByRecursion (λ r. is_good lists r ≡ true) (all_heads next others)
  pub own : (i : ℕ) → heads_of i (all_heads next others) ≤ 1
  pub leads : Leads next others

-- after a head comes the next one: the head's event is the one that is no longer to come, and it is before all others
pub record Goes (lists : List (List Item)) (head : Head) (old new : List (Reverse Head)) (next : Option Head) : Type 0 where
  pub stands : IsNext lists next new
  pub totals : (f : Event → ℕ) → f (event_at head) + total f (pending lists (all_heads next new)) ≡ total f (pending lists (all_heads (Some head) old))
  pub later : AllByRecursion (λ r. is_before (event_at head) (event_at r.0) ≡ true) (all_heads next new)

-- ---- the events so far
-- each event is before all later ones
abbrev pub Strict : List Event → Type 0
Strict [] = ⊤
Strict (x ∷ xs) = AllByRecursion (λ y. is_before x y ≡ true) xs × Strict xs

-- these events have come, in their order, and before all that are still to come
pub record SoFar (lists : List (List Item)) (done : List Event) (next : Option Head) (others : List (Reverse Head)) : Type 0 where
  pub stands : IsNext lists next others
  pub totals : (f : Event → ℕ) → total f done + total f (pending lists (all_heads next others)) ≡ total f (all_events lists)
  pub strict : Strict done
  pub first : AllByRecursion (λ (m : Event). AllByRecursion (λ (r : Reverse Head). is_before m (event_at r.0) ≡ true) (all_heads next others)) done

abbrev pub IsBehind : List Event → Coming → Type 0
IsBehind done c = SoFar (listed c.streams.now) done c.next (heap_items c.others)

-- some events have come
abbrev pub AreBehind : Coming → Type 0
AreBehind c = (done : List Event) × IsBehind done c

-- how many are still to come
abbrev pub left_in : Coming → ℕ
left_in c = total (λ e. 1) (pending (listed c.streams.now) (all_heads c.next (heap_items c.others)))

-- one more event has come
pub record Comes (old new : Coming) (done : List Event) (x : Event) : Type 0 where
  pub in_range : x.itag.0 < length (listed old.streams.now)
  pub fewer : left_in new < left_in old
  pub behind : IsBehind (done ++ x ∷ []) new

-- the next event; or, where there is none, the events that have come are the merged list, and there is no other one
abbrev pub Yields : Coming → Coming → Option Event → Type 0
Yields old new None = (done : List Event) → IsBehind done old → (events : List Event) → IsMerged (listed old.streams.now) events → events ≡ done
Yields old new (Some x) = (done : List Event) → IsBehind done old → Comes old new done x
