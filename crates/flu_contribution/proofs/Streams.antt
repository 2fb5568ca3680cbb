-- The merged events of streams are of itags of the job, and a report goes by the outputs as a multiset.
use Rattle.std.proofs.Common.{◌≡◌, ◌≤◌, ◌<◌, ◌+◌, ℕ, true, List, [], ◌∷◌, length, ap, arith}
use Rattle.std.specs.Prelude.{map, nat_lt, ◌==◌}
use Rattle.std.specs.Cmp.{IsTotalOrder}
use Rattle.std.specs.Cmp.Lexicographic.{slice_cmp}
use Rattle.std.specs.FinMap.{nat_cmp-IsAntisymmetric, slice_cmp-IsAntisymmetric}
use Rattle.std.specs.List.{flat_map, AllByRecursion}
use Rattle.std.specs.List.Sorted.{IsPermutation}
use Rattle.std.specs.Ordering.{nat_cmp, ordering_then, is_lt}
use Rattle.std.specs.declared.cmp.Ordering.TheVariants.{Equal}
use Rattle.std.proofs.lemmas.Cmp.{nat_cmp_total, nat_list_cmp_total, on_total, then_total}
use Rattle.std.proofs.lemmas.List.Sorted.{IsPermutation-map, IsPermutation-trans}
use Rattle.flu_lemmas.specs.Sorting.{in_order}
use Rattle.flu_lemmas.proofs.Elements.{all_map, all_append}
use Rattle.flu_lemmas.proofs.Sorting.{both_equal, in_order-permutation, in_order-sorted, in_order-only}
use Rattle.flu_lemmas.proofs.Tests.{and_left, and_right, true_eq, lt_true, true_lt}
use Rattle.flu_lemmas.proofs.Totals.{all-IsPermutation}
use Rattle.flu_model.specs.declared.events.Event.{Event}
use Rattle.flu_model.specs.declared.events.Item.{Item}
use Rattle.flu_model.specs.declared.events.Item.TheVariants.{Event as EventItem, Beat, End}
use Rattle.flu_model.specs.declared.events.Out.{Out}
use Rattle.flu_model.specs.declared.jobs.Program.{Program}
use Rattle.flu_model.specs.Itags.{count_of_itags}
use Rattle.flu_model.specs.Merging.{is_before, events_of, all_events, merged}
use Rattle.flu_model.specs.Reports.{Line, line_of, line_cmp, line_bytes, report}
use Rattle.flu_model.specs.Streaming.{is_stream_from, are_streams}
use Rattle.flu_contribution.specs.Laws.{AreInRange}

-- ---- the itags of streams
stream_in_range : (i low n : ℕ) (items : List Item) → i < n → is_stream_from i low items ≡ true
    → AllByRecursion (λ (x : Event). nat_lt x.itag.0 n ≡ true) (events_of items)
stream_in_range i low n [] lt e = cc
stream_in_range i low n (EventItem x ∷ items) lt e =
    let same : x.itag.0 ≡ i = true_eq x.itag.0 i (and_left (x.itag.0 == i) _ (and_left _ _ e)) in
    (lt_true x.itag.0 n (omega arith), stream_in_range i (x.time + 1) n items lt (and_right _ _ e))
stream_in_range i low n (Beat t ∷ items) lt e = stream_in_range i (t + 1) n items lt (and_right _ _ e)
stream_in_range i low n (End ∷ []) lt e = tt
stream_in_range i low n (End ∷ x ∷ items) lt e = cc

streams_in_range : (i n : ℕ) (lists : List (List Item)) → i + length lists ≤ n → are_streams i lists ≡ true
    → AllByRecursion (λ (x : Event). nat_lt x.itag.0 n ≡ true) (all_events lists)
streams_in_range i n [] le e = tt
streams_in_range i n (items ∷ lists) le e =
    all_append (λ (x : Event). nat_lt x.itag.0 n ≡ true) (events_of items) (all_events lists)
    (stream_in_range i 0 n items (omega arith) (and_left _ _ e)) (streams_in_range (i + 1) n lists (omega arith) (and_right _ _ e))

pub merged_in_range : (p : Program) (lists : List (List Item)) → length lists ≡ count_of_itags p → are_streams 0 lists ≡ true → AreInRange p (merged lists)
merged_in_range p lists one e =
    all_map (λ (x : Event). nat_lt x.itag.0 (count_of_itags p) ≡ true) (λ (x : Event). x.itag.0 < count_of_itags p) (merged lists)
    (λ x h. true_lt x.itag.0 (count_of_itags p) h)
    (all-IsPermutation (λ (x : Event). nat_lt x.itag.0 (count_of_itags p)) (all_events lists) (merged lists)
    (in_order-permutation is_before (all_events lists)) (streams_in_range 0 (count_of_itags p) lists (omega arith) e))

-- ---- reports
line_cmp-total : IsTotalOrder line_cmp
line_cmp-total = then_total (on_total (λ (l : Line). l.time) nat_cmp_total)
    (then_total (on_total (λ (l : Line). l.tag) nat_list_cmp_total) (on_total (λ (l : Line). l.text) nat_list_cmp_total))

same_line : (a b : Line) → line_cmp a b ≡ Equal → a ≡ b
same_line a b e =
    let by_time = both_equal (nat_cmp a.time b.time) (ordering_then (slice_cmp nat_cmp a.tag b.tag) (slice_cmp nat_cmp a.text b.text)) e in
    let by_tag = both_equal (slice_cmp nat_cmp a.tag b.tag) (slice_cmp nat_cmp a.text b.text) by_time.1 in
    let time : a.time ≡ b.time = nat_cmp-IsAntisymmetric a.time b.time by_time.0 in
    let tag : a.tag ≡ b.tag = slice_cmp-IsAntisymmetric nat_cmp-IsAntisymmetric a.tag b.tag by_tag.0 in
    let text : a.text ≡ b.text = slice_cmp-IsAntisymmetric nat_cmp-IsAntisymmetric a.text b.text by_tag.1 in
    λ i. record { time = time i; tag = tag i; text = text i }

pub same_report_of : (p : Program) (outs others : List Out) → IsPermutation outs others → report p others ≡ report p outs
same_report_of p outs others moved =
    let lines : List Line = in_order (λ a b. is_lt (line_cmp a b)) (map (line_of p) others) in
    ap (flat_map (line_bytes p.iso))
    (in_order-only line_cmp line_cmp-total (map (line_of p) outs) lines (λ a b here there. same_line a b)
    (in_order-sorted line_cmp line_cmp-total (map (line_of p) others))
    (IsPermutation-trans (map (line_of p) outs) (map (line_of p) others) lines (IsPermutation-map (line_of p) outs others moved)
    (in_order-permutation (λ a b. is_lt (line_cmp a b)) (map (line_of p) others))))
