-- The events of the files of good sources at their moments stand in turn, and are those of their lists. So the merged list is their merge by moments.
use Rattle.std.proofs.Common.{◌≡◌, ℕ, suc, ◌+◌, ◌*◌, ◌≤◌, ◌<◌, max, Bool, true, false, Option, Some, None, List, [], ◌∷◌, ◌++◌, map, length}
use Rattle.std.proofs.Common.{refl, sym, ap, subst, ◌∙◌, arith, length-append}
use Rattle.std.specs.Prelude.{◌==◌, if◌then◌else◌, unwrap_or, sum_by, IsPermutation}
use Rattle.std.specs.List.{flat_map, list_all, AllByRecursion}
use Rattle.std.specs.List.Sorted.{IsStableByKey}
use Rattle.std.specs.Ordering.{nat_cmp, is_lt}
use Rattle.std.proofs.lemmas.Grind.{flat_map-append}
use Rattle.std.proofs.lemmas.List.Sorted.{IsPermutation-refl, IsPermutation-trans, IsPermutation-append}
use Rattle.std.proofs.lemmas.List.Sums.{sum_by-append}
use Rattle.std.proofs.lemmas.Nat.{div-mul-add}
use Rattle.flu_lemmas.specs.Counting.{times}
use Rattle.flu_lemmas.proofs.Counting.{times_append, times_of_same}
use Rattle.flu_lemmas.proofs.Elements.{all_map, all_append}
use Rattle.flu_lemmas.proofs.Tests.{and_left, and_right}
use Rattle.flu_lemmas.proofs.Sorting.{IsRising, in_order-permutation, in_order-rising}
use Rattle.flu_model.specs.declared.events.Event.{Event as EventOf}
use Rattle.flu_model.specs.declared.events.Item.{Item}
use Rattle.flu_model.specs.declared.jobs.Program.{Program}
use Rattle.flu_model.specs.declared.jobs.Source.{Source}
use Rattle.flu_model.specs.Erasure.{job_of}
use Rattle.flu_model.specs.Merging.{events_of, all_events, merged, is_before}
use Rattle.flu_model.specs.Moments.{moments_a_time, time_of_moment, timing_of, moment_at, IsTiming}
use Rattle.flu_model.specs.Rules.{is_clock, source_fits}
use Rattle.flu_outside.specs.Outside.{Contents}
use Rattle.flu_rows.specs.declared.row.Fields.{Fields}
use Rattle.flu_rows.specs.declared.row.Row.{Row}
use Rattle.flu_rows.specs.declared.row.Row.TheVariants.{Event, Beat, End}
use Rattle.flu_rows.specs.Row.{form_of}
use Rattle.flu_streams.specs.declared.faults.SourceFault.{SourceFault}
use Rattle.flu_streams.specs.Before.{with_before, each_with_before, first_some}
use Rattle.flu_streams.specs.Clocks.{Declared, lists_of_ticks}
use Rattle.flu_streams.specs.Good.{lines_in, rows_in, items_held, fault_of_source, fault_of_rows, ticks_in, event_of, at_moments, AreGood, lists_of_rows}
use Rattle.flu_streams.specs.Good.{lists_of_source, lists_of}
use Rattle.flu_streams.specs.Holding.{item_of}
use Rattle.flu_streams.specs.Tags.{place_named, given_to, width}
use Rattle.flu_streams.specs.Tests.{first_of}
use Rattle.flu_streams.proofs.Moments.{product_le, time_of-moment, time_up, timing_fits}
use Rattle.flu_streams.proofs.RoundLaws.{or_else-none, no_option}
use Rattle.flu_merge.proofs.Clocks.{Rises, clock_width, ticks_rise, tick_event, clock_lists}
use Rattle.flu_merge.proofs.Sound.{AreSound, good_sound, all_listed, few_earlier}
use Rattle.flu_merge.proofs.Spread.{IsListed, in_lists}
use Rattle.flu_merge.proofs.Turns.{Later, InTurn, in_turn-append, before_by_time, before_by_itag, before_ranks, turn_stays, rising_keys}

module _ (p : Program) where
  abbrev time_of : EventOf → ℕ
  time_of x = time_of_moment p x.time

  -- ---- where events stand
  -- an event of a source from this one on, and of an itag from this one on
  record IsFrom (i first : ℕ) (x : EventOf) : Type 0 where
    number : ℕ
    time : ℕ
    place : ℕ
    is : x.time ≡ time * moments_a_time p + ((timing_of p number).offset + place)
    few : place < p.ties
    inside : number < length p.sources
    behind : i ≤ number
    tag : first ≤ x.itag.0

  -- an event of a source, after rows of these times, and of one of its itags
  record IsOf (i first past : ℕ) (earlier : List ℕ) (x : EventOf) : Type 0 where
    time : ℕ
    place : ℕ
    is : x.time ≡ time * moments_a_time p + ((timing_of p i).offset + place)
    few : place < p.ties
    later : times time earlier ≤ place
    tag : first ≤ x.itag.0
    within : x.itag.0 < past

  time_is : (number time place m : ℕ) → number < length p.sources → place < p.ties
      → m ≡ time * moments_a_time p + ((timing_of p number).offset + place) → time_of_moment p m ≡ time
  time_is number time place m inside few is =
      let within = (timing_fits p number inside).within in
      ap (time_of_moment p) is ∙ div-mul-add time (moments_a_time p) ((timing_of p number).offset + place) (omega (arith, within, few))

  -- of two events of one time the one of the earlier source is before the other
  across : (i first past : ℕ) (x y : EventOf) → i < length p.sources → IsOf i first past [] x → IsFrom (i + 1) past y → Later time_of x y
  across i first past x y inside of from same =
      let times_same : of.time ≡ from.time =
      sym (time_is i of.time of.place x.time inside of.few of.is) ∙ same ∙ time_is from.number from.time from.place y.time from.inside from.few from.is in
      let y_is : y.time ≡ of.time * moments_a_time p + ((timing_of p from.number).offset + from.place) =
      from.is ∙ ap (λ t. t * moments_a_time p + ((timing_of p from.number).offset + from.place)) (sym times_same) in
      by_version (p.version == 3) (timing_fits p i inside).within of.is y_is
    where
      by_version : (b : Bool) → (if b then i * p.ties else 0) + p.ties ≤ (if b then max 1 (length p.sources) * p.ties else 1)
          → x.time ≡ of.time * moments_a_time p + ((if b then i * p.ties else 0) + of.place)
          → y.time ≡ of.time * moments_a_time p + ((if b then from.number * p.ties else 0) + from.place) → is_before x y ≡ true
      by_version true one x_is y_is =
          let more = product_le (i + 1) from.number p.ties from.behind in
          let few = of.few in
          before_by_time x y (omega (arith, x_is, y_is, more, few))
      by_version false one x_is y_is =
          let few = of.few in
          let few' = from.few in
          let itag = of.within in
          let itag' = from.tag in
          before_by_itag x y (omega (arith, x_is, y_is, one, few, few')) (omega (arith, itag, itag'))

  -- ---- one source
  module _ (s : Source) (i first : ℕ) (inside : i < length p.sources) where
    abbrev events : List ℕ → List Row → List EventOf
    events earlier rows = events_of (map (item_of p.kinds s first) (at_moments (timing_of p i) earlier rows))

    fits : IsTiming (timing_of p i)
    fits = timing_fits p i inside

    more_times : (t : ℕ) (earlier more : List ℕ) → times t earlier ≤ times t (earlier ++ more)
    more_times t earlier more = let whole = times_append t earlier more in omega arith

    of_earlier : (past : ℕ) (earlier more : List ℕ) (xs : List EventOf) → AllByRecursion (IsOf i first past (earlier ++ more)) xs
        → AllByRecursion (IsOf i first past earlier) xs
    of_earlier past earlier more xs all =
        all_map (IsOf i first past (earlier ++ more)) (IsOf i first past earlier) xs
        (λ x h. record {
          time = h.time;
          place = h.place;
          is = h.is;
          few = h.few;
          later = (let le = h.later in let grows = more_times h.time earlier more in omega (arith, le, grows));
          tag = h.tag;
          within = h.within;
        }) all

    moment_is : (time before : ℕ) → before < p.ties
        → moment_at (timing_of p i) time before ≡ time * moments_a_time p + ((timing_of p i).offset + before)
    moment_is time before few = omega (arith, few)

    -- the event of a row after rows of these times
    abbrev event_at : List ℕ → ℕ → List ℕ → Option ℕ → Fields → EventOf
    event_at earlier time name key fields =
        event_of (moment_at (timing_of p i) time (times time earlier)) (first + unwrap_or (place_named p.kinds s name key) (width s))
        (given_to p.kinds name fields)

    first_event : (time : ℕ) (earlier : List ℕ) (x : EventOf) (n : ℕ)
        → x.time ≡ moment_at (timing_of p i) time (times time earlier) → x.itag.0 ≡ first + n → n < width s
        → times time earlier < p.ties → IsOf i first (first + width s) earlier x
    first_event time earlier x n at itag below few = record {
      time = time;
      place = times time earlier;
      is = at ∙ moment_is time (times time earlier) few;
      few = few;
      later = omega arith;
      tag = omega (arith, itag);
      within = omega (arith, itag, below);
    }

    listed_place : (o : Option ℕ) (n : ℕ) → o ≡ Some n → first + unwrap_or o (width s) ≡ first + n
    listed_place o n e = ap (λ o. first + unwrap_or o (width s)) e

    all_of : (earlier : List ℕ) (rows : List Row) → AreSound (timing_of p i) p.kinds s earlier rows
        → AllByRecursion (IsListed p.kinds s first) (at_moments (timing_of p i) earlier rows)
        → AllByRecursion (IsOf i first (first + width s) earlier) (events earlier rows)
    all_of earlier [] sound listed = tt
    all_of earlier (Event time name key fields ∷ rows) sound listed = (
      first_event time earlier (event_at earlier time name key fields) listed.0.0 refl
          (listed_place (place_named p.kinds s name key) listed.0.0 listed.0.1) listed.0.2
          (few_earlier (timing_of p i) p.kinds s fits earlier time sound.1),
      of_earlier (first + width s) earlier (time ∷ []) (events (earlier ++ time ∷ []) rows) (all_of (earlier ++ time ∷ []) rows sound.2 listed.1),
    )
    all_of earlier (Beat time ∷ rows) sound listed =
        of_earlier (first + width s) earlier (time ∷ []) (events (earlier ++ time ∷ []) rows) (all_of (earlier ++ time ∷ []) rows sound.2 listed.1)
    all_of earlier (End ∷ rows) sound listed =
        of_earlier (first + width s) earlier [] (events (earlier ++ []) rows) (all_of (earlier ++ []) rows sound.2 listed.1)

    one_later : (time past : ℕ) (earlier : List ℕ) (x y : EventOf) → x.time ≡ moment_at (timing_of p i) time (times time earlier)
        → times time earlier < p.ties → IsOf i first past (earlier ++ time ∷ []) y → Later time_of x y
    one_later time past earlier x y at few of same =
        let x_is : x.time ≡ time * moments_a_time p + ((timing_of p i).offset + times time earlier) = at ∙ moment_is time (times time earlier) few in
        let times_same : time ≡ of.time =
        sym (time_is i time (times time earlier) x.time inside few x_is) ∙ same ∙ time_is i of.time of.place y.time inside of.few of.is in
        let y_is : y.time ≡ time * moments_a_time p + ((timing_of p i).offset + of.place) =
        of.is ∙ ap (λ t. t * moments_a_time p + ((timing_of p i).offset + of.place)) (sym times_same) in
        let after : times time (earlier ++ time ∷ []) ≤ of.place = subst (λ t. times t (earlier ++ time ∷ []) ≤ of.place) (sym times_same) of.later in
        let whole = times_append time earlier (time ∷ []) in
        let own = times_of_same time time [] refl in
        before_by_time x y (omega (arith, x_is, y_is, after, whole, own))

    source_in_turn : (earlier : List ℕ) (rows : List Row) → AreSound (timing_of p i) p.kinds s earlier rows
        → AllByRecursion (IsListed p.kinds s first) (at_moments (timing_of p i) earlier rows) → InTurn time_of (events earlier rows)
    source_in_turn earlier [] sound listed = tt
    source_in_turn earlier (Event time name key fields ∷ rows) sound listed = (
      all_map (IsOf i first (first + width s) (earlier ++ time ∷ [])) (Later time_of (event_at earlier time name key fields))
          (events (earlier ++ time ∷ []) rows)
          (λ y of. one_later time (first + width s) earlier (event_at earlier time name key fields) y refl
          (few_earlier (timing_of p i) p.kinds s fits earlier time sound.1) of)
          (all_of (earlier ++ time ∷ []) rows sound.2 listed.1),
      source_in_turn (earlier ++ time ∷ []) rows sound.2 listed.1,
    )
    source_in_turn earlier (Beat time ∷ rows) sound listed = source_in_turn (earlier ++ time ∷ []) rows sound.2 listed.1
    source_in_turn earlier (End ∷ rows) sound listed = source_in_turn (earlier ++ []) rows sound.2 listed.1

  -- ---- a clock
  module _ (i first : ℕ) (inside : i < length p.sources) where
    tick_time : (t : ℕ) → time_of (tick_event (timing_of p i) first t) ≡ t
    tick_time t = time_of-moment (timing_of p i) (timing_fits p i inside) t 0

    ticks_of : (past : ℕ) (ticks : List ℕ) → first < past → AllByRecursion (IsOf i first past []) (map (tick_event (timing_of p i) first) ticks)
    ticks_of past [] lt = tt
    ticks_of past (t ∷ ticks) lt = (
      record {
        time = t;
        place = 0;
        is = omega arith;
        few = (timing_fits p i inside).some;
        later = omega arith;
        tag = omega arith;
        within = lt;
      },
      ticks_of past ticks lt,
    )

    later_ticks : (t low : ℕ) (ticks : List ℕ) → t < low → Rises low ticks
        → AllByRecursion (Later time_of (tick_event (timing_of p i) first t)) (map (tick_event (timing_of p i) first) ticks)
    later_ticks t low [] lt up = tt
    later_ticks t low (u ∷ ticks) lt up = (
      λ same. absurd (omega (arith, lt, up.0, tick_time t, tick_time u, same)),
      later_ticks t (suc u) ticks (omega (arith, lt, up.0)) up.1,
    )

    ticks_in_turn : (low : ℕ) (ticks : List ℕ) → Rises low ticks → InTurn time_of (map (tick_event (timing_of p i) first) ticks)
    ticks_in_turn low [] up = tt
    ticks_in_turn low (t ∷ ticks) up = (later_ticks t (suc t) ticks (omega arith) up.1, ticks_in_turn (suc t) ticks up.1)

  -- what holds of the events of each source, of which these are the lists
  record IsInTurn (i first : ℕ) (s : Source) (events : List EventOf) (lists : List (List Item)) : Type 0 where
    each : AllByRecursion (IsOf i first (first + width s) []) events
    turn : InTurn time_of events
    same : IsPermutation events (all_events lists)

  -- ---- all sources
  module _ (left : Contents) where
    abbrev rows : Source → List Row
    rows s = rows_in (form_of (job_of p)) left s

    -- the events of a source's rows at their moments, and of a clock's ticks
    abbrev row_events : Declared → List EventOf
    row_events e = events_of (map (item_of p.kinds e.1 (sum_by width e.0)) (at_moments (timing_of p (length e.0)) [] (rows e.1)))

    abbrev tick_events : Declared → List EventOf
    tick_events e = map (tick_event (timing_of p (length e.0)) (sum_by width e.0)) (ticks_in p left e)

    -- the events of a source at their moments
    abbrev pub events_in : Declared → List EventOf
    events_in e = if is_clock e.1 then tick_events e else row_events e

    abbrev lists_in : Declared → List (List Item)
    lists_in e = lists_of_source p (rows e.1) (ticks_in p left e) e

    abbrev fault_in : Declared → Option SourceFault
    fault_in e = fault_of_source (timing_of p) (form_of (job_of p)) p.kinds left e.0 e.1

    sound_in : (before : List Source) (s : Source) → fault_in (before, s) ≡ None → AreSound (timing_of p (length before)) p.kinds s [] (rows s)
    sound_in before s none =
        let held = items_held (form_of (job_of p)) left before in
        let lines = lines_in (form_of (job_of p)) left s in
        good_sound (timing_of p (length before)) p.kinds s held lines (no_option _ (first_of (timing_of p (length before)) p.kinds s held lines) none)

    listed_in : (before : List Source) (s : Source) → fault_in (before, s) ≡ None
        → AllByRecursion (IsListed p.kinds s (sum_by width before)) (at_moments (timing_of p (length before)) [] (rows s))
    listed_in before s none = all_listed (timing_of p (length before)) p.kinds s (sum_by width before) [] (rows s) (sound_in before s none)

    source_is : (before : List Source) (s : Source) → length before < length p.sources → source_fits p.kinds s ≡ true → fault_in (before, s) ≡ None
        → IsInTurn (length before) (sum_by width before) s (events_in (before, s)) (lists_in (before, s))
    source_is before s inside fits none = by_clock (is_clock s) refl
      where
        by_clock : (c : Bool) → is_clock s ≡ c → IsInTurn (length before) (sum_by width before) s
            (if c then tick_events (before, s) else row_events (before, s))
            (if c then lists_of_ticks (timing_of p (length before)) s (sum_by width before) (ticks_in p left (before, s))
            else lists_of_rows (timing_of p (length before)) p.kinds s (sum_by width before) (rows s))
        by_clock true clock =
            let one = clock_width p.kinds s fits clock in
            let ticks = ticks_in p left (before, s) in
            record {
              each = ticks_of (length before) (sum_by width before) inside (sum_by width before + width s) ticks (omega (arith, one));
              turn = ticks_in_turn (length before) (sum_by width before) inside 0 ticks (ticks_rise p.kinds s (length p.sources) (length before) _ fits);
              same = subst (λ l. IsPermutation (tick_events (before, s)) l)
                  (sym (clock_lists (timing_of p (length before)) s (sum_by width before) ticks one)) (IsPermutation-refl (tick_events (before, s)));
            }
        by_clock false file = record {
          each = all_of s (length before) (sum_by width before) inside [] (rows s) (sound_in before s none) (listed_in before s none);
          turn = source_in_turn s (length before) (sum_by width before) inside [] (rows s) (sound_in before s none) (listed_in before s none);
          same = in_lists p.kinds s (sum_by width before) (at_moments (timing_of p (length before)) [] (rows s)) (listed_in before s none);
        }

    -- the events of the files are those of the lists
    pub same_events : (before sources : List Source) → length before + length sources ≤ length p.sources → list_all (source_fits p.kinds) sources ≡ true
        → first_some fault_in (with_before before sources) ≡ None
        → IsPermutation (flat_map events_in (with_before before sources)) (all_events (flat_map lists_in (with_before before sources)))
    same_events before [] few fits none = IsPermutation-refl []
    same_events before (s ∷ sources) few fits none =
        let parts = or_else-none (fault_in (before, s)) _ none in
        let more = with_before (before ++ s ∷ []) sources in
        let one = length-append before (s ∷ []) in
        let own = source_is before s (omega (arith, few)) (and_left (source_fits p.kinds s) _ fits) parts.0 in
        subst (λ l. IsPermutation (events_in (before, s) ++ flat_map events_in more) l)
        (sym (flat_map-append events_of (lists_in (before, s)) (flat_map lists_in more)))
        (IsPermutation-append (events_in (before, s)) (all_events (lists_in (before, s))) (flat_map events_in more) (all_events (flat_map lists_in more))
        own.same (same_events (before ++ s ∷ []) sources (omega (arith, few, one)) (and_right (source_fits p.kinds s) _ fits) parts.1))

    -- those of the sources from one on
    one_more : (before : List Source) (s : Source) → length (before ++ s ∷ []) ≡ length before + 1
    one_more before s = length-append before (s ∷ [])

    wider : (before : List Source) (s : Source) → sum_by width (before ++ s ∷ []) ≡ sum_by width before + width s
    wider before s = let whole = sum_by-append width before (s ∷ []) in omega arith

    all_from : (before sources : List Source) → length before + length sources ≤ length p.sources → list_all (source_fits p.kinds) sources ≡ true
        → first_some fault_in (with_before before sources) ≡ None
        → AllByRecursion (IsFrom (length before) (sum_by width before)) (flat_map events_in (with_before before sources))
    all_from before [] few fits none = tt
    all_from before (s ∷ sources) few fits none =
        let parts = or_else-none (fault_in (before, s)) _ none in
        let more = with_before (before ++ s ∷ []) sources in
        let inside : length before < length p.sources = omega (arith, few) in
        let one = one_more before s in
        let past = wider before s in
        all_append (IsFrom (length before) (sum_by width before)) (events_in (before, s)) (flat_map events_in more)
        (all_map (IsOf (length before) (sum_by width before) (sum_by width before + width s) []) (IsFrom (length before) (sum_by width before))
        (events_in (before, s))
        (λ x h. record {
          number = length before;
          time = h.time;
          place = h.place;
          is = h.is;
          few = h.few;
          inside = inside;
          behind = omega arith;
          tag = h.tag;
        })
        (source_is before s inside (and_left (source_fits p.kinds s) _ fits) parts.0).each)
        (all_map (IsFrom (length (before ++ s ∷ [])) (sum_by width (before ++ s ∷ []))) (IsFrom (length before) (sum_by width before)) (flat_map events_in more)
        (λ x h. record {
          number = h.number;
          time = h.time;
          place = h.place;
          is = h.is;
          few = h.few;
          inside = h.inside;
          behind = (let behind = h.behind in omega (arith, behind, one));
          tag = (let tag = h.tag in omega (arith, tag, past));
        })
        (all_from (before ++ s ∷ []) sources (omega (arith, few, one)) (and_right (source_fits p.kinds s) _ fits) parts.1))

    all_in_turn : (before sources : List Source) → length before + length sources ≤ length p.sources → list_all (source_fits p.kinds) sources ≡ true
        → first_some fault_in (with_before before sources) ≡ None → InTurn time_of (flat_map events_in (with_before before sources))
    all_in_turn before [] few fits none = tt
    all_in_turn before (s ∷ sources) few fits none =
        let parts = or_else-none (fault_in (before, s)) _ none in
        let more = with_before (before ++ s ∷ []) sources in
        let inside : length before < length p.sources = omega (arith, few) in
        let fewer : length (before ++ s ∷ []) + length sources ≤ length p.sources = (let one = one_more before s in omega (arith, few, one)) in
        let past : ℕ = sum_by width before + width s in
        let own = source_is before s inside (and_left (source_fits p.kinds s) _ fits) parts.0 in
        let later = and_right (source_fits p.kinds s) _ fits in
        let others : AllByRecursion (IsFrom (length before + 1) past) (flat_map events_in more) =
        subst (λ n. AllByRecursion (IsFrom n past) (flat_map events_in more)) (one_more before s)
        (subst (λ n. AllByRecursion (IsFrom (length (before ++ s ∷ [])) n) (flat_map events_in more)) (wider before s)
        (all_from (before ++ s ∷ []) sources fewer later parts.1)) in
        in_turn-append time_of (events_in (before, s)) (flat_map events_in more)
        own.turn
        (all_in_turn (before ++ s ∷ []) sources fewer later parts.1)
        (all_map (IsOf (length before) (sum_by width before) past []) (λ x. AllByRecursion (Later time_of x) (flat_map events_in more)) (events_in (before, s))
        (λ x of. all_map (IsFrom (length before + 1) past) (Later time_of x) (flat_map events_in more)
        (λ y from. across (length before) (sum_by width before) past x y inside of from) others)
        own.each)

-- in the merged list are the events of the files at their moments, in order of time, and those at one time in the order of the files
pub record IsMergeByMoments (p : Program) (events merged' : List EventOf) : Type 0 where
  pub all : IsPermutation events merged'
  pub by_time : IsRising (λ (x y : EventOf). is_lt (nat_cmp (time_of_moment p x.time) (time_of_moment p y.time))) merged'
  pub stable : IsStableByKey (λ (x : EventOf). time_of_moment p x.time) nat_cmp events merged'

-- THE MERGED LIST of good sources at their moments
pub merged_by_moments : (p : Program) (left : Contents) → AreGood p left
    → IsMergeByMoments p (flat_map (events_in p left) (each_with_before p.sources)) (merged (lists_of p left))
merged_by_moments p left good =
    let given : List EventOf = flat_map (events_in p left) (each_with_before p.sources) in
    let listed : List EventOf = all_events (lists_of p left) in
    let fine = (or_else-none (fault_of_rows p left) _ good).0 in
    let moved : IsPermutation given (merged (lists_of p left)) =
    IsPermutation-trans given listed (merged (lists_of p left)) (same_events p left [] p.sources (omega arith) p.sources_fit fine)
    (in_order-permutation is_before listed) in
    let up : IsRising is_before (merged (lists_of p left)) = in_order-rising is_before before_ranks listed in
    record {
      all = moved;
      by_time = rising_keys (λ (x : EventOf). time_of_moment p x.time) (λ x y le. time_up p x.time y.time le) (merged (lists_of p left)) up;
      stable = turn_stays (λ (x : EventOf). time_of_moment p x.time) given (merged (lists_of p left))
          (all_in_turn p left [] p.sources (omega arith) p.sources_fit fine)
          moved up;
    }
