-- What holds of the events of streams holds of their merged list.
use Rattle.std.proofs.Common.{◌≡◌, ◌≤◌, ◌<◌, ◌+◌, ℕ, zero, suc, Bool, true, false, cond, List, [], ◌∷◌, length, max, arith}
use Rattle.std.specs.Prelude.{◌==◌, slice_index_or}
use Rattle.std.specs.List.{AllByRecursion, flat_map, fold, range_with_len, reduce}
use Rattle.std.proofs.lemmas.List.Sorted.{length_permutation}
use Rattle.flu_lemmas.specs.Sorting.{put_in_order, in_order}
use Rattle.flu_lemmas.proofs.Elements.{all_append, all_front, all_back}
use Rattle.flu_lemmas.proofs.Sorting.{in_order-permutation}
use Rattle.flu_lemmas.proofs.Tests.{and_left, and_right, true_eq}
use Rattle.flu_model.specs.declared.events.Event.{Event}
use Rattle.flu_model.specs.declared.events.Item.{Item}
use Rattle.flu_model.specs.declared.events.Item.TheVariants.{Event as EventItem, Beat, End}
use Rattle.flu_model.specs.declared.jobs.Program.{Program}
use Rattle.flu_model.specs.Itags.{count_of_itags}
use Rattle.flu_model.specs.Merging.{is_before, events_of, all_events, merged}
use Rattle.flu_model.specs.Streaming.{is_stream_from, are_streams}
use Rattle.flu_apart.specs.Classes.{has_ticks}
use Rattle.flu_partial.specs.Partial.{IsTime, IsTimeOrNone}
use Rattle.flu_sending.specs.Lines.{times_of, all_times, times_of_itag, row_times}

-- ---- lists in order
put_all : {X : Type 0} (P : X → Type 0) (before : X → X → Bool) (x : X) (ys : List X) → P x → AllByRecursion P ys → AllByRecursion P (put_in_order before x ys)
put_all P before x [] px all = (px, tt)
put_all P before x (y ∷ ys) px all =
    elim (before x y) as (λ b. AllByRecursion P (cond b (x ∷ y ∷ ys) (y ∷ put_in_order before x ys))) [
      | true ↦ (px, all)
      | false ↦ (all.0, put_all P before x ys px all.1)
    ]

all_in_order : {X : Type 0} (P : X → Type 0) (before : X → X → Bool) (xs : List X) → AllByRecursion P xs → AllByRecursion P (in_order before xs)
all_in_order P before [] all = tt
all_in_order P before (x ∷ xs) all = put_all P before x (in_order before xs) all.0 (all_in_order P before xs all.1)

pub all_merged : (P : Event → Type 0) (lists : List (List Item)) → AllByRecursion P (all_events lists) → AllByRecursion P (merged lists)
all_merged P lists all = all_in_order P is_before (all_events lists) all

-- ---- the itags of streams
stream_in_range : (i low n : ℕ) (items : List Item) → i < n → is_stream_from i low items ≡ true
    → AllByRecursion (λ (x : Event). x.itag.0 < n) (events_of items)
stream_in_range i low n [] lt e = cc
stream_in_range i low n (EventItem x ∷ items) lt e =
    let same : x.itag.0 ≡ i = true_eq x.itag.0 i (and_left (x.itag.0 == i) _ (and_left _ _ e)) in
    (omega arith, stream_in_range i (x.time + 1) n items lt (and_right _ _ e))
stream_in_range i low n (Beat t ∷ items) lt e = stream_in_range i (t + 1) n items lt (and_right _ _ e)
stream_in_range i low n (End ∷ []) lt e = tt
stream_in_range i low n (End ∷ x ∷ items) lt e = cc

streams_in_range : (i n : ℕ) (lists : List (List Item)) → i + length lists ≤ n → are_streams i lists ≡ true
    → AllByRecursion (λ (x : Event). x.itag.0 < n) (all_events lists)
streams_in_range i n [] le e = tt
streams_in_range i n (items ∷ lists) le e =
    all_append (λ (x : Event). x.itag.0 < n) (events_of items) (all_events lists)
    (stream_in_range i 0 n items (omega arith) (and_left _ _ e)) (streams_in_range (i + 1) n lists (omega arith) (and_right _ _ e))

-- the merged events of streams are of their itags
pub merged_in_range : (n : ℕ) (lists : List (List Item)) → length lists ≡ n → are_streams 0 lists ≡ true
    → AllByRecursion (λ (x : Event). x.itag.0 < n) (merged lists)
merged_in_range n lists one e = all_merged (λ (x : Event). x.itag.0 < n) lists (streams_in_range 0 n lists (omega arith) e)

-- ---- their times
times_in : (items : List Item) → AllByRecursion IsTime (times_of items) → AllByRecursion (λ (x : Event). IsTime x.time) (events_of items)
times_in [] all = tt
times_in (EventItem x ∷ items) all = (all.0, times_in items all.1)
times_in (Beat t ∷ items) all = times_in items all.1
times_in (End ∷ items) all = times_in items all

pub event_times : (lists : List (List Item)) → AllByRecursion IsTime (all_times lists) → AllByRecursion (λ (x : Event). IsTime x.time) (all_events lists)
event_times [] all = tt
event_times (items ∷ lists) all =
    all_append (λ (x : Event). IsTime x.time) (events_of items) (all_events lists) (times_in items (all_front IsTime (times_of items) (all_times lists) all))
    (event_times lists (all_back IsTime (times_of items) (all_times lists) all))

-- those of one itag, by its number
times_at : (lists : List (List Item)) (i : ℕ) → AllByRecursion IsTime (all_times lists) → AllByRecursion IsTime (times_of (slice_index_or lists i []))
times_at [] i all = tt
times_at (items ∷ lists) zero all = all_front IsTime (times_of items) (all_times lists) all
times_at (items ∷ lists) (suc i) all = times_at lists i (all_back IsTime (times_of items) (all_times lists) all)

-- the times of the rows are among all
pub row_times_low : (p : Program) (lists : List (List Item)) → AllByRecursion IsTime (all_times lists) → AllByRecursion IsTime (row_times p lists)
row_times_low p lists all = of_itags (range_with_len 0 (count_of_itags p))
  where
    of_itag : (i : ℕ) → AllByRecursion IsTime (times_of_itag p lists i)
    of_itag i =
        elim (has_ticks p i) as (λ b. AllByRecursion IsTime (cond b [] (times_of (slice_index_or lists i [])))) [
          | true ↦ tt
          | false ↦ times_at lists i all
        ]

    of_itags : (is : List ℕ) → AllByRecursion IsTime (flat_map (times_of_itag p lists) is)
    of_itags [] = tt
    of_itags (i ∷ is) = all_append IsTime (times_of_itag p lists i) (flat_map (times_of_itag p lists) is) (of_itag i) (of_itags is)

greatest_time : (t : ℕ) (ts : List ℕ) → IsTime t → AllByRecursion IsTime ts → IsTime (fold max t ts)
greatest_time t [] low all = low
greatest_time t (u ∷ ts) low all = greatest_time (max t u) ts (omega (arith, low, all.0)) all.1

pub last_in_range : (ts : List ℕ) → AllByRecursion IsTime ts → IsTimeOrNone (reduce max ts)
last_in_range [] all = tt
last_in_range (t ∷ ts) all = greatest_time t ts all.0 all.1

-- ---- and their number
pub length_merged : (lists : List (List Item)) → length (merged lists) ≡ length (all_events lists)
length_merged lists = length_permutation (all_events lists) (merged lists) (in_order-permutation is_before (all_events lists))
