-- What a cut takes out, and what it leaves.
use Rattle.std.proofs.Common.{◌≡◌, inl, inr, ℕ, ◌+◌, ◌<◌, Bool, true, false, take, List, [], ◌∷◌, ◌++◌, length, map, set, vec_len, Vec, Option, Some, None}
use Rattle.std.proofs.Common.{refl, sym, ap, subst}
use Rattle.std.proofs.Common.{◌∙◌, arith}
use Rattle.std.specs.Global.{Global}
use Rattle.std.specs.Prelude.{slice_get, nat_lt, sum_by, if◌then◌else◌}
use Rattle.std.specs.List.{filter, flat_map, filter_map, list_all, list_any, range_with_len}
use Rattle.std.proofs.lemmas.Bool.{cases_lt}
use Rattle.std.proofs.lemmas.Bool.Decides.{nat_tests}
use Rattle.std.proofs.lemmas.Grind.{flat_map-append}
use Rattle.std.proofs.lemmas.List.{append-nil, ext_get_or, length-map}
use Rattle.std.proofs.lemmas.List.FromFn.{length-map-range_with_len, get_or-map-range_with_len}
use Rattle.std.proofs.lemmas.Option.{slice_get_within}
use Rattle.flu_lemmas.specs.Late.{rises_from}
use Rattle.flu_lemmas.proofs.Late.{rising}
use Rattle.flu_lemmas.proofs.Places.{slice_get-there}
use Rattle.flu_lemmas.proofs.Replaced.{slice_get-set_other}
use Rattle.flu_model.specs.declared.events.Item.{Item}
use Rattle.flu_model.specs.declared.events.Item.TheVariants.{End as EndItem}
use Rattle.flu_model.specs.declared.jobs.Kind.{Kind}
use Rattle.flu_model.specs.declared.jobs.Source.{Source}
use Rattle.flu_model.specs.declared.jobs.Program.{Program}
use Rattle.flu_model.specs.declared.moments.Timing.{Timing}
use Rattle.flu_model.specs.Moments.{timing_of, last_moment, IsTiming}
use Rattle.flu_model.specs.Rules.{is_clock}
use Rattle.flu_model.specs.Streaming.{are_streams}
use Rattle.flu_outside.specs.Outside.{Contents}
use Rattle.flu_outside.specs.Taking.{IsReadOut}
use Rattle.flu_rows.specs.declared.rows.Next.{Next}
use Rattle.flu_streams.specs.declared.border.Border.{Border}
use Rattle.flu_streams.specs.declared.border.Border.TheVariants.{At, Closed}
use Rattle.flu_streams.specs.declared.held.Stage.{Stage}
use Rattle.flu_streams.specs.declared.held.Stage.TheVariants.{Filling, Filled, Over}
use Rattle.flu_streams.specs.declared.inlet.Inlet.{Inlet}
use Rattle.flu_streams.specs.Before.{each_with_before}
use Rattle.flu_streams.specs.Clocks.{Declared, items_of_ticks, lists_of_ticks}
use Rattle.flu_streams.specs.Good.{at_moments, in_time_order, items_at, lists_of_rows, lists_of_source}
use Rattle.flu_streams.specs.declared.clocks.Span.{Span}
use Rattle.flu_streams.specs.LoopClocks.{FewTicks, HasSpan, span_of, ticks_in_span}
use Rattle.flu_streams.specs.Holding.{HeldSource, Holding, IsHeldBehind, AreHeldBehind, Cuts, first_itag, item_of, still}
use Rattle.flu_streams.specs.Lists.{lists_in, items_of_list, item_time, item_for}
use Rattle.flu_streams.specs.LoopMoments.{border_moment, end_moment}
use Rattle.flu_streams.specs.LoopHeld.{source_of, taken_by, DropsTo, AreDropped, IsSettledAt, IsSettledBy, AreWell, AreCaughtUp, IsWellIn, IsWell, AreBehind}
use Rattle.flu_streams.specs.Rounds.{rows_between, is_above, is_up_to, settled, lists_between, ticks_between, ranks}
use Rattle.flu_streams.specs.Tags.{width}
use Rattle.flu_streams.specs.Tests.{rows_of, times_of, greatest, margin}
use Rattle.flu_streams.proofs.Befores.{with_before-append}
use Rattle.flu_streams.proofs.Bounds.{few_dropped}
use Rattle.flu_streams.proofs.Counting.{still_rises}
use Rattle.flu_streams.proofs.Cutting.{all_kept}
use Rattle.flu_streams.proofs.HeldRows.{taken_items, left_items}
use Rattle.flu_streams.proofs.Moments.{between_moments, timing_fits}
use Rattle.flu_streams.proofs.RoundLaws.{Exceeds, exceeds_moments}
use Rattle.flu_streams.proofs.Filled.{behind_with, clocks_shut}
use Rattle.flu_streams.proofs.RoundOf.{holding, behind_at}
use Rattle.flu_streams.proofs.Rounding.{set_here}
use Rattle.flu_lemmas.proofs.Mapped.{from_mapped}
use Rattle.flu_streams.proofs.Starts.{to_mapped, one_there}
use Rattle.flu_streams.proofs.Streamings.{streams_of_range, are_streams-append}
use Rattle.flu_streams.proofs.Taken.{for_itags, stream_of}
use Rattle.flu_streams.proofs.SourceFiles.{clock_width}
use Rattle.flu_streams.proofs.Spans.{any_clock}
use Rattle.flu_streams.proofs.Ticking.{span_has, ticks_held}

-- ---- the lists of one source
lists_are : (lists : Vec (Vec Item Global) Global) (n : ℕ) (f : ℕ → List Item) → vec_len lists ≡ n → ((i : ℕ) → i < n → items_of_list lists i ≡ f i)
    → lists_in lists ≡ map f (range_with_len 0 n)
lists_are lists n f len each =
    let size : length (lists_in lists) ≡ n = simp length-map (omega (arith, lists.ok.0, len)) in
    ext_get_or [] (lists_in lists) (map f (range_with_len 0 n)) (size ∙ sym (length-map-range_with_len f 0 n))
    (λ i lt. each i (rw size at lt) ∙ sym (get_or-map-range_with_len f 0 n i i [] (rw size at lt) (omega arith)))

-- the items of an itag up to a border, and the end
abbrev pub own_items : ℕ → Border → List Item → ℕ → List Item
own_items first end items i = filter_map (item_for (first + i)) (taken_by end items) ++ EndItem ∷ []

pub own_streams : (lists : Vec (Vec Item Global) Global) (first n : ℕ) (end : Border) (items : List Item) → vec_len lists ≡ n
    → ((i : ℕ) → i < n → items_of_list lists i ≡ own_items first end items i)
    → rises_from item_time 0 items ≡ true → are_streams first (lists_in lists) ≡ true
own_streams lists first n end items len each up =
    ap (are_streams first) (lists_are lists n (own_items first end items) len each)
    ∙ streams_of_range first n (own_items first end items)
    (λ i lt. stream_of (first + i) 0 (taken_by end items)
    (rising item_time 0 (taken_by end items) (still_rises (λ (item : Item). is_up_to end (item_time item)) items up)))

-- the items that are held, at their moments, once the reading has reached the border
items_above : (timing : Timing) (fits : IsTiming timing) (kinds : List Kind) (s : Source) (first : ℕ) (border : Option ℕ) (lines : List Next) (h : HeldSource)
    → IsHeldBehind timing kinds first s border lines h → h.goal ≡ None
    → h.items ≡ map (item_of kinds s first) (in_time_order (rows_between (border_moment timing border) Closed (at_moments timing [] (rows_of lines))))
items_above timing fits kinds s first border lines h is caught =
    is.items
    ∙ ap (λ (low : Option ℕ). map (item_of kinds s first) (in_time_order (at_moments timing [] (rows_between low Closed (rows_of lines))))) (is.caught caught)
    ∙ ap (λ rows. map (item_of kinds s first) (in_time_order rows)) (between_moments timing fits border Closed (rows_of lines))

pub own_lists : (timing : Timing) (fits : IsTiming timing) (lists : Vec (Vec Item Global) Global) (kinds : List Kind) (s : Source) (first : ℕ)
    (border : Option ℕ) (end : Border) (lines : List Next) (h : Inlet) → vec_len lists ≡ width s
    → ((i : ℕ) → i < width s → items_of_list lists i ≡ own_items first (end_moment timing end) h.items i)
    → IsHeldBehind timing kinds first s border lines (source_of h) → h.goal ≡ None
    → lists_in lists ≡ lists_of_rows timing kinds s first (rows_between border end (rows_of lines))
own_lists timing fits lists kinds s first border end lines h len each is caught =
    let all = at_moments timing [] (rows_of lines) in
    let rows = rows_between (border_moment timing border) (end_moment timing end) all in
    lists_are lists (width s) (items_at kinds s first rows) len
    (λ i lt. each i lt ∙ ap (λ l. filter_map (item_for (first + i)) l ++ (EndItem ∷ []))
    (taken_items kinds s first (border_moment timing border) (end_moment timing end) all h.items
    (items_above timing fits kinds s first border lines (source_of h) is caught))
    ∙ ap (λ l. l ++ (EndItem ∷ [])) (for_itags kinds s first i (in_time_order rows) lt))
    ∙ ap (λ own. map (items_at kinds s first own) (range_with_len 0 (width s))) (sym (between_moments timing fits border end (rows_of lines)))

-- ---- the lists of all sources
-- those of one source
abbrev pub lists_own : Program → Option ℕ → Border → (ℕ → List Next) → Declared → List (List Item)
lists_own p border end lines e = lists_of_source p (rows_between border end (rows_of (lines (length e.0)))) (ticks_between p border end lines e) e

pub rows_own : (p : Program) (border : Option ℕ) (end : Border) (lines : ℕ → List Next) (earlier : List Source) (s : Source) (i : ℕ) → length earlier ≡ i
    → is_clock s ≡ false → lists_own p border end lines (earlier, s)
    ≡ lists_of_rows (timing_of p i) p.kinds s (sum_by width earlier) (rows_between border end (rows_of (lines i)))
rows_own p border end lines earlier s i size goes =
    ap (λ b. if b then lists_of_ticks (timing_of p (length earlier)) s (sum_by width earlier) (ticks_between p border end lines (earlier, s)) else
    lists_of_rows (timing_of p (length earlier)) p.kinds s (sum_by width earlier) (rows_between border end (rows_of (lines (length earlier))))) goes
    ∙ ap (λ (n : ℕ). lists_of_rows (timing_of p n) p.kinds s (sum_by width earlier) (rows_between border end (rows_of (lines n)))) size

-- a clock has one list
pub ticks_own : (p : Program) (border : Option ℕ) (end : Border) (lines : ℕ → List Next) (earlier : List Source) (s : Source) (i first : ℕ)
    → length earlier ≡ i → is_clock s ≡ true → width s ≡ 1 → first ≡ sum_by width earlier → lists_own p border end lines (earlier, s)
    ≡ items_of_ticks (timing_of p i) first (ticks_between p border end lines (earlier, s)) ∷ []
ticks_own p border end lines earlier s i first size ticks one at =
    let own = ticks_between p border end lines (earlier, s) in
    ap (λ b. if b then lists_of_ticks (timing_of p (length earlier)) s (sum_by width earlier) own else
    lists_of_rows (timing_of p (length earlier)) p.kinds s (sum_by width earlier) (rows_between border end (rows_of (lines (length earlier))))) ticks
    ∙ ap (λ n. map (λ place. items_of_ticks (timing_of p (length earlier)) (sum_by width earlier + place) own) (range_with_len 0 n)) one
    ∙ ap (λ (n : ℕ). items_of_ticks (timing_of p (length earlier)) n own ∷ []) (omega (arith, at))
    ∙ ap (λ (n : ℕ). items_of_ticks (timing_of p n) first own ∷ []) size

pub own_of_clock : (p : Program) (above : Option ℕ) (end : Border) (lines : ℕ → List Next) (inlets : List Inlet) (i number first : ℕ) (s : Source)
    (span : Option Span) (lists : List (List Item)) → length (take i p.sources) ≡ i → number ≡ i → is_clock s ≡ true → width s ≡ 1
    → first ≡ sum_by width (take i p.sources) → span ≡ span_of p inlets → HasSpan (span_of p inlets) (ranks p lines)
    → lists ≡ items_of_ticks (timing_of p number) first (ticks_in_span p above span end (take number p.sources, s)) ∷ []
    → lists ≡ lists_own p above end lines (take i p.sources, s)
own_of_clock p above end lines inlets i number first s span lists size number_is ticks one at span_is has is =
    is
    ∙ ap (λ (n : ℕ). items_of_ticks (timing_of p n) first (ticks_in_span p above span end (take n p.sources, s)) ∷ []) number_is
    ∙ ap (λ (x : Option Span). items_of_ticks (timing_of p i) first (ticks_in_span p above x end (take i p.sources, s)) ∷ []) span_is
    ∙ ap (λ (l : List ℕ). items_of_ticks (timing_of p i) first l ∷ []) (ticks_held p above end lines inlets (take i p.sources, s) has)
    ∙ sym (ticks_own p above end lines (take i p.sources) s i first size ticks one at)

pub own_of : (p : Program) (above : Option ℕ) (end : Border) (lines : ℕ → List Next) (inlets : List Inlet) (i number first : ℕ) (s : Source) (h : Inlet)
    (span : Option Span) (lists : List (List Item)) → length (take i p.sources) ≡ i → number ≡ i → slice_get p.sources i ≡ Some s
    → first ≡ sum_by width (take i p.sources) → slice_get inlets i ≡ Some h → length inlets ≡ length p.sources
    → (list_any is_clock p.sources ≡ true → span ≡ span_of p inlets) → AreBehind p above lines inlets
    → (is_clock s ≡ true → lists ≡ items_of_ticks (timing_of p number) first (ticks_in_span p above span end (take number p.sources, s)) ∷ [])
    → (is_clock s ≡ false → (these : List Next) → IsHeldBehind (timing_of p number) p.kinds first s above these (source_of h)
    → lists ≡ lists_of_rows (timing_of p number) p.kinds s first (rows_between above end (rows_of these)))
    → lists ≡ lists_own p above end lines (take i p.sources, s)
own_of p above end lines inlets i number first s h span lists size number_is at from here count span_is behind ticking reading = by_kind (is_clock s) refl
  where
    by_kind : (b : Bool) → is_clock s ≡ b → lists ≡ lists_own p above end lines (take i p.sources, s)
    by_kind true ticks =
        own_of_clock p above end lines inlets i number first s span lists size number_is ticks (clock_width p i s at ticks) from
        (span_is (any_clock p.sources i s at ticks)) (span_has p above lines inlets count behind) (ticking ticks)
    by_kind false goes =
        let is : IsHeldBehind (timing_of p number) p.kinds first s above (lines i) (source_of h) =
        subst (λ (n : ℕ). IsHeldBehind (timing_of p n) p.kinds first s above (lines i) (source_of h)) (sym number_is)
        (subst (λ (n : ℕ). IsHeldBehind (timing_of p i) p.kinds n s above (lines i) (source_of h)) (sym from) (behind i s at h here)) in
        reading goes (lines i) is
        ∙ ap (λ (n : ℕ). lists_of_rows (timing_of p n) p.kinds s first (rows_between above end (rows_of (lines i)))) number_is
        ∙ ap (λ (n : ℕ). lists_of_rows (timing_of p i) p.kinds s n (rows_between above end (rows_of (lines i)))) from
        ∙ sym (rows_own p above end lines (take i p.sources) s i size goes)

-- those of the first sources
abbrev pub lists_first : Program → Option ℕ → Border → (ℕ → List Next) → List Source → List (List Item)
lists_first p border end lines sources =
    flat_map (lists_own p border end lines) (each_with_before sources)

pub lists_more : (p : Program) (border : Option ℕ) (end : Border) (lines : ℕ → List Next) (earlier : List Source) (s : Source)
    (these own : List (List Item)) → these ≡ lists_first p border end lines earlier → own ≡ lists_own p border end lines (earlier, s)
    → these ++ own ≡ lists_first p border end lines (earlier ++ s ∷ [])
lists_more p border end lines earlier s these own is more =
    let g = lists_own p border end lines in
    ap (λ l. l ++ own) is ∙ ap (λ l. lists_first p border end lines earlier ++ l) more
    ∙ sym (ap (flat_map g) (with_before-append [] earlier (s ∷ [])) ∙ flat_map-append g (each_with_before earlier) ((earlier, s) ∷ [])
    ∙ ap (λ l. lists_first p border end lines earlier ++ l) (append-nil (g (earlier, s))))

pub streams_both : (these own : List (List Item)) (first : ℕ) → length these ≡ first → are_streams 0 these ≡ true → are_streams first own ≡ true
    → are_streams 0 (these ++ own) ≡ true
streams_both these own first size one two =
    let at : 0 + length these ≡ first = omega (arith, size) in are_streams-append 0 these own one (subst (λ n. are_streams n own ≡ true) (sym at) two)

-- ---- what is left
exceeds : (border : Option ℕ) (t : ℕ) → is_above border t ≡ true → Exceeds t border
exceeds None t up u e = refl
exceeds (Some b) t up u e = grind (arith, nat_tests)

cut_one : (timing : Timing) (fits : IsTiming timing) (kinds : List Kind) (s : Source) (first t : ℕ) (border : Option ℕ) (lines : List Next) (old new : Inlet)
    → old.timing ≡ timing → is_above border t ≡ true → IsSettledAt s (Some t) old → old.goal ≡ None → DropsTo t old new
    → IsHeldBehind timing kinds first s border lines (source_of old) → IsHeldBehind timing kinds first s (Some t) lines (source_of new)
cut_one timing fits kinds s first t border lines old new timed up at caught d is = record {
  file = ap (λ place. place.file) d.rows ∙ is.file;
  sound = is.sound;
  low = Some t;
  items = d.items ∙ ap (λ (own : Timing). filter (λ (item : Item). nat_lt (last_moment own t) (item_time item)) old.items) timed
      ∙ left_items kinds s first (border_moment timing border) (last_moment timing t) (at_moments timing [] (rows_of lines)) old.items
      (exceeds_moments timing fits t border (exceeds border t up)) (items_above timing fits kinds s first border lines (source_of old) is caught)
      ∙ ap (λ rows. map (item_of kinds s first) (in_time_order rows)) (sym (between_moments timing fits (Some t) Closed (rows_of lines)));
  earliest = d.first ∙ is.earliest;
  last = d.last ∙ is.last;
  ended = d.ended ∙ is.ended;
  settled = λ goes v e.
      let k = at (sym d.closed ∙ goes) v e in (
        k.0,
        ap (λ (own : Timing). settled (margin own s.slack) (greatest (times_of (rows_of lines)))) (sym timed)
            ∙ ap (settled (margin old.timing s.slack)) (sym is.last) ∙ k.1,
        k.2,
      );
  up_to = λ l e. (l, e, omega arith);
  caught = λ none. refl;
  goal = λ v e. absurd (never v (sym caught ∙ sym d.goal ∙ e));
}
  where
    never : (v : ℕ) → None ≡ Some v → ⊥
    never v e = cc

pub cuts_at : (p : Program) (rows t : ℕ) (border : Option ℕ) (stage : Stage) (olds news : List Inlet) → AreWell p rows border olds
    → IsSettledBy p border (At t) olds → AreCaughtUp olds → AreDropped t olds news
    → Cuts (holding p rows border stage olds) (holding p rows (Some t) Filling news) (At t)
cuts_at p rows t border stage olds news well settles caught dropped =
    let count : length news ≡ length p.sources = dropped.size ∙ well.count in
    let shut = λ (i : ℕ) (s : Source) (at : slice_get p.sources i ≡ Some s) (h : Inlet) (f : slice_get news i ≡ Some h) (ticks : is_clock s ≡ true).
    let old = slice_get-there olds i (rw well.count (slice_get_within p.sources i s at)) in
    (dropped.each i old.0 h old.1 f).closed ∙ clocks_shut p rows border olds well i s at old.0 old.1 ticks in
    record {
      program = refl;
      rows = refl;
      border = refl;
      stage = refl;
      behind = λ lines is. behind_with p rows (Some t) Filling news lines count shut (λ i s at h f.
          let old = slice_get-there olds i (rw well.count (slice_get_within p.sources i s at)) in
          cut_one (timing_of p i) (timing_fits p i (slice_get_within p.sources i s at)) p.kinds s (first_itag p i) t border (lines i) old.0 h
          (well.each i s at old.0 old.1).timing_is settles.0 (settles.1 i s at old.0 old.1) (caught i old.0 old.1)
          (dropped.each i old.0 h old.1 f)
          (behind_at p rows border stage olds lines is i s at old.0 old.1));
      still' = λ lines whole left all i source f.
          let k = from_mapped source_of news i source f in
          let old = slice_get-there olds i (rw (← dropped.size) (slice_get_within news i k.0 k.1)) in
          let d = dropped.each i old.0 k.0 old.1 k.1 in
          all i (source_of old.0) (to_mapped source_of olds i old.0 old.1)
          ∙ ap (λ l. lines i ++ l) (same_still old.0 k.0 left d ∙ ap (λ (h : HeldSource). still h left) (sym k.2));
      ended = λ left was i s at source f file closed.
          let k = from_mapped source_of news i source f in
          let old = slice_get-there olds i (rw (← dropped.size) (slice_get_within news i k.0 k.1)) in
          let d = dropped.each i old.0 k.0 old.1 k.1 in
          subst (λ n. IsReadOut n left) (sym (ap (λ (h : HeldSource). h.place.file) k.2 ∙ ap (λ place. place.file) d.rows))
          (was i s at (source_of old.0) (to_mapped source_of olds i old.0 old.1) file (sym d.closed ∙ ap (λ (h : HeldSource). h.closed) (sym k.2) ∙ closed));
      closed = λ was i source f.
          let k = from_mapped source_of news i source f in
          let old = slice_get-there olds i (rw (← dropped.size) (slice_get_within news i k.0 k.1)) in
          let d = dropped.each i old.0 k.0 old.1 k.1 in
          ap (λ (h : HeldSource). h.closed) k.2 ∙ d.closed ∙ was i (source_of old.0) (to_mapped source_of olds i old.0 old.1);
    }
  where
    same_still : (old new : Inlet) (left : Contents) → DropsTo t old new → still (source_of old) left ≡ still (source_of new) left
    same_still old new left d = sym (rw (d.rows, d.closed) refl)

pub cuts_closed : (p : Program) (rows : ℕ) (border : Option ℕ) (stage : Stage) (inlets : List Inlet) → AreWell p rows border inlets
    → Cuts (holding p rows border stage inlets) (holding p rows border Over inlets) Closed
cuts_closed p rows border stage inlets well = record {
  program = refl;
  rows = refl;
  border = refl;
  stage = refl;
  behind = λ lines is. behind_with p rows border Over inlets lines well.count (clocks_shut p rows border inlets well)
      (behind_at p rows border stage inlets lines is);
  still' = λ lines whole left all. all;
  ended = λ left was. was;
  closed = λ was. was;
}

pub dropped_well : (p : Program) (rows t : ℕ) (border : Option ℕ) (olds news : List Inlet) → AreWell p rows border olds
    → IsSettledBy p border (At t) olds → AreCaughtUp olds → AreDropped t olds news → AreWell p rows (Some t) news
dropped_well p rows t border olds news well settles caught dropped = record {
  some = well.some;
  most = well.most;
  count = dropped.size ∙ well.count;
  forms = λ i h f.
      let old = slice_get-there olds i (rw (← dropped.size) (slice_get_within news i h f)) in
      ap (λ place. place.form) (dropped.each i old.0 h old.1 f).rows ∙ well.forms i old.0 old.1;
  few = λ i s at h f.
      let old = slice_get-there olds i (rw well.count (slice_get_within p.sources i s at)) in
      few_dropped rows t s old.0 h (dropped.each i old.0 h old.1 f) (well.few i s at old.0 old.1);
  each = λ i s at h f.
      let old = slice_get-there olds i (rw well.count (slice_get_within p.sources i s at)) in
      let d = dropped.each i old.0 h old.1 f in
      let own = well.each i s at old.0 old.1 in
      let later = λ (item : Item). nat_lt (last_moment old.0.timing t) (item_time item) in
      record {
        timing_is = d.timing ∙ own.timing_is;
        file = ap (λ place. place.file) d.rows ∙ own.file;
        goal = λ v e. absurd (never v (sym (caught i old.0 old.1) ∙ sym d.goal ∙ e));
        clock = λ ticks. d.closed ∙ own.clock ticks;
        above = λ none. ap (λ (timing : Timing). list_all (λ (item : Item). nat_lt (last_moment timing t) (item_time item)) h.items) (sym own.timing_is)
            ∙ ap (list_all later) d.items ∙ all_kept later old.0.items;
        settled = λ none goes v e.
            let k = settles.1 i s at old.0 old.1 (sym d.closed ∙ goes) v e in (
              k.0,
              ap (λ (timing : Timing). settled (margin timing s.slack) h.last) d.timing ∙ ap (settled (margin old.0.timing s.slack)) d.last ∙ k.1,
              k.2,
            );
      };
}
  where
    never : (v : ℕ) → None ≡ Some v → ⊥
    never v e = cc

-- one source more is dropped
pub dropped_more : (t n : ℕ) (olds news : List Inlet) (mid new : Inlet) → slice_get news n ≡ Some mid → slice_get news n ≡ slice_get olds n → DropsTo t mid new
    → ((i : ℕ) (o m : Inlet) → i < n → slice_get olds i ≡ Some o → slice_get news i ≡ Some m → DropsTo t o m)
    → (i : ℕ) (o m : Inlet) → i < n + 1 → slice_get olds i ≡ Some o → slice_get (set news n new) i ≡ Some m → DropsTo t o m
dropped_more t n olds news mid new at same drops done i o m lt was is =
    elim (cases_lt i n) [
      | inl before ↦ done i o m before was (sym (slice_get-set_other news n i new (λ e. omega (arith, before, e))) ∙ is)
      | inr behind ↦
          let here : i ≡ n = omega (arith, lt, behind) in
          let m_is : m ≡ new = set_here news n new m (ap (slice_get (set news n new)) (sym here) ∙ is) in
          let o_is : mid ≡ o = one_there news n mid o at (same ∙ ap (slice_get olds) (sym here) ∙ was) in
          subst (λ x. DropsTo t x m) o_is (subst (λ y. DropsTo t mid y) (sym m_is) drops)
    ]

-- ---- what is so where a cut may be called, and where a refill may be
pub well_filling : (p : Program) (rows : ℕ) (border : Option ℕ) (stage : Stage) (inlets : List Inlet) → IsWell p rows border stage inlets
    → stage ≡ Filling → AreWell p rows border inlets
well_filling p rows border stage inlets is e = subst (λ s. IsWellIn p rows border s inlets) e is.0

pub well_filled : (p : Program) (rows : ℕ) (border : Option ℕ) (stage : Stage) (b : Border) (inlets : List Inlet) → IsWell p rows border stage inlets
    → stage ≡ Filled b
    → AreWell p rows border inlets × IsSettledBy p border b inlets × AreCaughtUp inlets × FewTicks p rows border (span_of p inlets) b
well_filled p rows border stage b inlets is e = subst (λ s. IsWellIn p rows border s inlets) e is.0

pub closed_if_not : (b : Border) → ((t : ℕ) → b ≡ At t → ⊥) → b ≡ Closed
closed_if_not Closed other = refl
closed_if_not (At t) other = absurd (other t refl)

-- ---- the lists of a cut
pub cut_lists : (v : Holding) (p q : Program) (rows : ℕ) (border : Option ℕ) (stage : Stage) (inlets : List Inlet) (b : Border)
    (lines : ℕ → List Next) (lists : List (List Item)) → holding q rows border stage inlets ≡ v → q ≡ p
    → ((these : ℕ → List Next) → AreBehind p border these inlets → lists ≡ lists_between p border b these) → AreHeldBehind v lines
    → lists ≡ lists_between p v.border b lines
cut_lists v p q rows border stage inlets b lines lists is same each behind =
    let own = behind_at q rows border stage inlets lines (subst (λ w. AreHeldBehind w lines) (sym is) behind) in
    each lines (subst (λ r. AreBehind r border lines inlets) same own) ∙ ap (λ (w : Holding). lists_between p w.border b lines) is
