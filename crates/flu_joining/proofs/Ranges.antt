-- The merged events of streams are of itags of the job.
use Rattle.std.proofs.Common.{◌≡◌, ◌≤◌, ◌<◌, ◌+◌, ℕ, true, List, [], ◌∷◌, length, arith}
use Rattle.std.specs.Prelude.{nat_lt, ◌==◌}
use Rattle.std.specs.List.{AllByRecursion}
use Rattle.flu_lemmas.proofs.Elements.{all_map, all_append}
use Rattle.flu_lemmas.proofs.Sorting.{in_order-permutation}
use Rattle.flu_lemmas.proofs.Tests.{and_left, and_right, true_eq, lt_true, true_lt}
use Rattle.flu_lemmas.proofs.Totals.{all-IsPermutation}
use Rattle.flu_model.specs.declared.events.Event.{Event}
use Rattle.flu_model.specs.declared.events.Item.{Item}
use Rattle.flu_model.specs.declared.events.Item.TheVariants.{Event as EventItem, Beat, End}
use Rattle.flu_model.specs.declared.jobs.Program.{Program}
use Rattle.flu_model.specs.Itags.{count_of_itags}
use Rattle.flu_model.specs.Merging.{is_before, events_of, all_events, merged}
use Rattle.flu_model.specs.Streaming.{is_stream_from, are_streams}
use Rattle.flu_contribution.specs.Laws.{AreInRange}

stream_in_range : (i low n : ℕ) (items : List Item) → i < n → is_stream_from i low items ≡ true
    → AllByRecursion (λ (x : Event). nat_lt x.itag.0 n ≡ true) (events_of items)
stream_in_range i low n [] lt e = cc
stream_in_range i low n (EventItem x ∷ items) lt e =
    let same : x.itag.0 ≡ i = true_eq x.itag.0 i (and_left (x.itag.0 == i) _ (and_left _ _ e)) in
    (lt_true x.itag.0 n (omega arith), stream_in_range i (x.time + 1) n items lt (and_right _ _ e))
stream_in_range i low n (Beat t ∷ items) lt e = stream_in_range i (t + 1) n items lt (and_right _ _ e)
stream_in_range i low n (End ∷ []) lt e = tt
stream_in_range i low n (End ∷ x ∷ items) lt e = cc

streams_in_range : (i n : ℕ) (lists : List (List Item)) → i + length lists ≤ n → are_streams i lists ≡ true
    → AllByRecursion (λ (x : Event). nat_lt x.itag.0 n ≡ true) (all_events lists)
streams_in_range i n [] le e = tt
streams_in_range i n (items ∷ lists) le e =
    all_append (λ (x : Event). nat_lt x.itag.0 n ≡ true) (events_of items) (all_events lists)
    (stream_in_range i 0 n items (omega arith) (and_left _ _ e)) (streams_in_range (i + 1) n lists (omega arith) (and_right _ _ e))

pub merged_in_range : (p : Program) (lists : List (List Item)) → length lists ≡ count_of_itags p → are_streams 0 lists ≡ true → AreInRange p (merged lists)
merged_in_range p lists one e =
    all_map (λ (x : Event). nat_lt x.itag.0 (count_of_itags p) ≡ true) (λ (x : Event). x.itag.0 < count_of_itags p) (merged lists)
    (λ x h. true_lt x.itag.0 (count_of_itags p) h)
    (all-IsPermutation (λ (x : Event). nat_lt x.itag.0 (count_of_itags p)) (all_events lists) (merged lists)
    (in_order-permutation is_before (all_events lists)) (streams_in_range 0 (count_of_itags p) lists (omega arith) e))
