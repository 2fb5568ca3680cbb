-- The lists of good sources are streams.
use Rattle.std.proofs.Common.{◌≡◌, ◌<◌, ◌+◌, ℕ, zero, suc, Bool, true, false, List, [], ◌∷◌, ◌++◌, length, map, take, Some, None, refl, sym, ap, subst}
use Rattle.std.proofs.Common.{◌∙◌, append_assoc, arith}
use Rattle.std.specs.Prelude.{◌==◌, ◌&&◌, nat_le, unwrap_or, option_map, sum_by, slice_get, slice_index_or, is_some, if◌then◌else◌}
use Rattle.std.specs.List.{filter_map, flat_map, range_with_len}
use Rattle.std.proofs.Math.Seq.{take-append_seam}
use Rattle.std.proofs.lemmas.List.FromFn.{length-map-range_with_len}
use Rattle.std.proofs.lemmas.List.Sums.{sum_by-append}
use Rattle.std.proofs.lemmas.Option.{slice_get_within}
use Rattle.flu_model.specs.Erasure.{job_of}
use Rattle.flu_model.specs.Itags.{count_of_itags, source_of_itag}
use Rattle.flu_model.specs.Moments.{timing_of}
use Rattle.flu_model.specs.Rules.{is_clock}
use Rattle.flu_lemmas.proofs.Numbers.{same_number}
use Rattle.flu_lemmas.proofs.Tests.{and_left, and_right, both, le_true}
use Rattle.flu_model.specs.declared.events.Item.{Item}
use Rattle.flu_model.specs.declared.events.Item.TheVariants.{End as EndItem}
use Rattle.flu_model.specs.declared.jobs.Kind.{Kind}
use Rattle.flu_model.specs.declared.jobs.Source.{Source}
use Rattle.flu_model.specs.declared.jobs.Program.{Program}
use Rattle.flu_model.specs.declared.moments.Timing.{Timing}
use Rattle.flu_model.specs.Streaming.{is_stream_from, are_streams}
use Rattle.flu_outside.specs.Outside.{Contents}
use Rattle.flu_rows.specs.declared.row.Row.{Row}
use Rattle.flu_rows.specs.declared.row.Row.TheVariants.{Event, Beat, End}
use Rattle.flu_rows.specs.Row.{form_of}
use Rattle.flu_streams.specs.Before.{with_before, first_some}
use Rattle.flu_streams.specs.Clocks.{Declared, items_of_ticks, lists_of_ticks}
use Rattle.flu_streams.specs.Good.{lines_in, rows_in, ranks_in, ticks_beside, items_held, fault_of_source, fault_of_rows, fault_of_clocks, AreGood, item_in}
use Rattle.flu_streams.specs.Good.{at_moments, in_time_order, items_at, lists_of_rows, lists_of_source, lists_beside, lists_of}
use Rattle.flu_streams.specs.Tags.{place_named, width}
use Rattle.flu_streams.specs.Tests.{first_of}
use Rattle.flu_streams.proofs.Moments.{moments_some, timing_fits}
use Rattle.flu_streams.proofs.Ticking.{Rises, ticks_rise, stream_of_ticks}
use Rattle.flu_apart.specs.Classes.{itag}
use Rattle.flu_selected.specs.Laws.{LawOfTicks}
use Rattle.flu_readers.proofs.Rising.{Rise, rise_lower, no_first, no_mapped, good_rows_rise}
use Rattle.flu_readers.proofs.Ticks.{IsOfClock}

-- ---- the list of one itag
stream_of : (kinds : List Kind) (s : Source) (first place low : ℕ) (rows : List Row) → Rise low rows
    → is_stream_from (first + place) low (filter_map (item_in kinds s first place) rows ++ EndItem ∷ []) ≡ true
stream_of kinds s first place low [] up = refl
stream_of kinds s first place low (Event time name key fields ∷ rows) up =
    by_test (unwrap_or (option_map (λ n. n == place) (place_named kinds s name key)) false) refl (λ from later. stream_of kinds s first place from rows later)
  where
    by_test : (b : Bool) → unwrap_or (option_map (λ n. n == place) (place_named kinds s name key)) false ≡ b
        → ((from : ℕ) → Rise from rows → is_stream_from (first + place) from (filter_map (item_in kinds s first place) rows ++ EndItem ∷ []) ≡ true)
        → is_stream_from (first + place) low (filter_map (item_in kinds s first place) (Event time name key fields ∷ rows) ++ EndItem ∷ []) ≡ true
    by_test true own rest =
        rw own (both ((first + place == first + place) && nat_le low time) _
        (both (first + place == first + place) (nat_le low time) (same_number (first + place)) (le_true low time up.0))
        (rest (time + 1) up.1))
    by_test false other rest =
        let first_time = up.0 in
        rw other (rest low (rise_lower (time + 1) low rows (omega arith) up.1))
stream_of kinds s first place low (Beat time ∷ rows) up =
    both (nat_le low time) _ (le_true low time up.0) (stream_of kinds s first place (time + 1) rows up.1)
stream_of kinds s first place low (End ∷ rows) up = stream_of kinds s first place low rows up

-- ---- the lists of one source
streams_of_range : (first from n : ℕ) (f : ℕ → List Item) → ((place : ℕ) → is_stream_from (first + place) 0 (f place) ≡ true)
    → are_streams (first + from) (map f (range_with_len from n)) ≡ true
streams_of_range first from zero f each = refl
streams_of_range first from (suc n) f each =
    let next : first + from + 1 ≡ first + (from + 1) = omega arith in
    both (is_stream_from (first + from) 0 (f from)) _ (each from)
    (ap (λ i. are_streams i (map f (range_with_len (from + 1) n))) next ∙ streams_of_range first (from + 1) n f each)

streams_of_source : (timing : Timing) (kinds : List Kind) (s : Source) (first : ℕ) (rows : List Row) → Rise 0 (in_time_order (at_moments timing [] rows))
    → are_streams first (lists_of_rows timing kinds s first rows) ≡ true
streams_of_source timing kinds s first rows up =
    let start : first ≡ first + 0 = omega arith in
    ap (λ i. are_streams i (lists_of_rows timing kinds s first rows)) start
    ∙ streams_of_range first 0 (width s) (items_at kinds s first (at_moments timing [] rows))
    (λ place. stream_of kinds s first place 0 (in_time_order (at_moments timing [] rows)) up)

-- ---- the lists of all sources
streams_append : (i : ℕ) (front back : List (List Item)) → are_streams i front ≡ true → are_streams (i + length front) back ≡ true
    → are_streams i (front ++ back) ≡ true
streams_append i [] back p q = let none : i ≡ i + 0 = omega arith in ap (λ j. are_streams j back) none ∙ q
streams_append i (items ∷ front) back p q =
    let one : i + 1 + length front ≡ i + suc (length front) = omega arith in
    both (is_stream_from i 0 items) _ (and_left (is_stream_from i 0 items) (are_streams (i + 1) front) p)
    (streams_append (i + 1) front back (and_right (is_stream_from i 0 items) (are_streams (i + 1) front) p) (ap (λ j. are_streams j back) one ∙ q))

-- of a source with these rows, whose moments rise, or of a clock with these ticks, which rise
streams_of_declared : (p : Program) (rows : List Row) (ticks : List ℕ) (e : Declared) → Rises 0 ticks
    → (is_clock e.1 ≡ false → Rise 0 (in_time_order (at_moments (timing_of p (length e.0)) [] rows)))
    → are_streams (sum_by width e.0) (lists_of_source p rows ticks e) ≡ true
streams_of_declared p rows ticks e up file_up =
    let timing = timing_of p (length e.0) in
    let first = sum_by width e.0 in
    elim (is_clock e.1) as (λ b. is_clock e.1 ≡ b
    → are_streams first (if b then lists_of_ticks timing e.1 first ticks else lists_of_rows timing p.kinds e.1 first rows) ≡ true) [
      | true ↦ λ is.
          let start : first ≡ first + 0 = omega arith in
          ap (λ i. are_streams i (lists_of_ticks timing e.1 first ticks)) start
          ∙ streams_of_range first 0 (width e.1) (λ place. items_of_ticks timing (first + place) ticks)
          (λ place. stream_of_ticks timing (first + place) 0 0 ticks (moments_some p) up (omega arith))
      | false ↦ λ file. streams_of_source timing p.kinds e.1 first rows (file_up file)
    ] refl

width_of_source : (p : Program) (rows : List Row) (ticks : List ℕ) (e : Declared) → length (lists_of_source p rows ticks e) ≡ width e.1
width_of_source p rows ticks e =
    let timing = timing_of p (length e.0) in
    let first = sum_by width e.0 in
    elim (is_clock e.1) as (λ b.
    length (if b then lists_of_ticks timing e.1 first ticks else lists_of_rows timing p.kinds e.1 first rows) ≡ width e.1) [
      | true ↦ length-map-range_with_len (λ place. items_of_ticks timing (first + place) ticks) 0 (width e.1)
      | false ↦ length-map-range_with_len (items_at p.kinds e.1 first (at_moments timing [] rows)) 0 (width e.1)
    ]

slice_here : (front later : List Source) (s : Source) → slice_get (front ++ (s ∷ later)) (length front) ≡ Some s
slice_here [] later s = refl
slice_here (x ∷ front) later s = slice_here front later s

-- where the rows of none has a defect, the lists are streams, whatever the rows among which clocks tick
module _ (p : Program) (beside : List ℕ) (left : Contents) where
  abbrev rows_of_declared : Declared → List Row
  rows_of_declared e = rows_in (form_of (job_of p)) left e.1

  abbrev lists_of_declared : Declared → List (List Item)
  lists_of_declared e = lists_of_source p (rows_of_declared e) (ticks_beside p beside left e) e

  streams_from : (before sources : List Source) → p.sources ≡ before ++ sources
      → first_some (λ e. fault_of_source (timing_of p) (form_of (job_of p)) p.kinds left e.0 e.1) (with_before before sources) ≡ None
      → are_streams (sum_by width before) (flat_map lists_of_declared (with_before before sources)) ≡ true
  streams_from before [] split none = refl
  streams_from before (s ∷ sources) split none =
      let n = length before in
      let timing = timing_of p n in
      let parts = no_first (fault_of_source (timing_of p) (form_of (job_of p)) p.kinds left before s) _ none in
      let defect = no_mapped _ (first_of timing p.kinds s (items_held (form_of (job_of p)) left before) (lines_in (form_of (job_of p)) left s)) parts.0 in
      let first = sum_by width before in
      let here : List (List Item) = lists_of_declared (before, s) in
      let many : length here ≡ width s = width_of_source p (rows_of_declared (before, s)) (ticks_beside p beside left (before, s)) (before, s) in
      let next : sum_by width (before ++ s ∷ []) ≡ sum_by width before + sum_by width (s ∷ []) = sum_by-append width before (s ∷ []) in
      let number : first + length here ≡ sum_by width (before ++ s ∷ []) = omega arith in
      let back : List (List Item) = flat_map lists_of_declared (with_before (before ++ s ∷ []) sources) in
      let at : slice_get p.sources n ≡ Some s = ap (λ all. slice_get all n) split ∙ slice_here before sources s in
      let front : take n p.sources ≡ before = ap (take n) split ∙ take-append_seam before (s ∷ sources) in
      let up : Rises 0 (ticks_beside p beside left (before, s)) =
      subst (λ earlier. Rises 0 (ticks_beside p beside left (earlier, s))) front (ticks_rise p n s (beside ++ ranks_in p left) at) in
      streams_append first here back
      (streams_of_declared p (rows_of_declared (before, s)) (ticks_beside p beside left (before, s)) (before, s) up
      (λ file. good_rows_rise timing (timing_fits p n (slice_get_within p.sources n s at)) p.kinds s (items_held (form_of (job_of p)) left before)
      (lines_in (form_of (job_of p)) left s) defect))
      (ap (λ i. are_streams i back) number
      ∙ streams_from (before ++ s ∷ []) sources (split ∙ sym (append_assoc before (s ∷ []) sources)) parts.1)

  pub sound_streams : fault_of_rows p left ≡ None → are_streams 0 (lists_beside p beside left) ≡ true
  sound_streams none = streams_from [] p.sources refl none

-- the list of a clock's itag is always one
pub clock_stream : LawOfTicks → (p : Program) (left : Contents) (i : ℕ) → i < count_of_itags p → IsOfClock p i
    → is_stream_from i 0 (slice_index_or (lists_of p left) i []) ≡ true
clock_stream law p left i lt clock =
    let n = source_of_itag p (itag i) in
    let ticks = ticks_beside p [] left (take n p.sources, clock.source) in
    ap (is_stream_from i 0) (law p [] left i clock.source lt clock.there (ap is_some clock.is))
    ∙ stream_of_ticks (timing_of p n) i 0 0 ticks (moments_some p) (ticks_rise p n clock.source (ranks_in p left) clock.there) (omega arith)

pub good_streams : (p : Program) (left : Contents) → AreGood p left → are_streams 0 (lists_of p left) ≡ true
good_streams p left good = sound_streams p [] left (no_first (fault_of_rows p left) (fault_of_clocks p [] left) good).0
