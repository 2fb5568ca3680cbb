-- What a node apart sends of the sources that it reads is what it would send of all: the events that it needs and its part lacks are ticks of clocks above
-- it. Each comes before all rows that the node reads, or behind a tick of the same clock that its part has and that is behind them: so it is idle.
use Rattle.std.proofs.Common.{◌≡◌, ◌<◌, ◌≤◌, ◌+◌, ◌-◌, ◌*◌, ◌/◌, ℕ, min, max, Bool, true, false, not, List, [], length, map, inl, inr}
use Rattle.std.proofs.Common.{refl, sym, ap, subst, ◌∙◌, arith}
use Rattle.std.specs.Prelude.{Contains, slice_get, slice_index_or, nat_lt, ◌==◌, ◌&&◌, ◌||◌, if◌then◌else◌}
use Rattle.std.specs.List.{filter, list_any}
use Rattle.std.specs.Option.{option_map_or}
use Rattle.std.proofs.lemmas.Bool.{cases_Bool, cases_lt, or_cases, or_left}
use Rattle.std.proofs.lemmas.List.{get_or_past}
use Rattle.std.proofs.lemmas.List.Kept.{IsStrictlyIncreasing-filter}
use Rattle.flu_lemmas.proofs.Numbers.{same_number}
use Rattle.flu_lemmas.proofs.Tests.{and_left, lt_true, true_lt, true_eq, not_both}
use Rattle.flu_model.specs.declared.events.Event.{Event}
use Rattle.flu_model.specs.declared.events.Item.{Item}
use Rattle.flu_model.specs.declared.jobs.Program.{Program}
use Rattle.flu_model.specs.declared.plans.Node.{Node}
use Rattle.flu_model.specs.Contents.{Contents as Cells}
use Rattle.flu_model.specs.Itags.{count_of_itags, source_of_itag}
use Rattle.flu_model.specs.Merging.{is_before, events_of, merged}
use Rattle.flu_model.specs.Moments.{timing_of, moment_at}
use Rattle.flu_model.specs.Rules.{is_clock}
use Rattle.flu_model.specs.Streaming.{is_stream_from, are_streams}
use Rattle.flu_moments.specs.Moments.{moment}
use Rattle.flu_moments.proofs.ComputedLemmas.{ticks_are_computed}
use Rattle.flu_moments.proofs.FrontLemmas.{kept as of_kept, is_kept as in_kept}
use Rattle.flu_moments.proofs.MomentLemmas.{row_below, source_within}
use Rattle.flu_moments.proofs.StepLemmas.{only_rising}
use Rattle.flu_outside.specs.Outside.{Contents}
use Rattle.flu_streams.specs.Clocks.{has_ticks}
use Rattle.flu_streams.specs.Good.{ranks_in, lists_of}
use Rattle.flu_streams.proofs.Moments.{timing_fits, time_of-moment}
use Rattle.flu_streams.proofs.Spans.{has_ties}
use Rattle.flu_apart.specs.Apart.{MayBeApart}
use Rattle.flu_apart.specs.Classes.{itag}
use Rattle.flu_contribution.specs.Contributions.{is_inside, is_above, contributions}
use Rattle.flu_contribution.specs.Sending.{sent}
use Rattle.flu_contribution.specs.Sharing.{is_needed, needs_itag, IsIdle, IdleEventsDontMatter, MergedListsPassAlike, MergedEventsRiseStrictly}
use Rattle.flu_selected.specs.Laws.{LawOfRanks, LawOfLists, LawOfTicks, LawOfLength, selected}
use Rattle.flu_readers.specs.Reading.{reads}
use Rattle.flu_readers.proofs.Events.{in_map, of_map, any_there, any_found, none_pass, filter_mapped, stream_itag, in_merged, of_merged, tick_event}
use Rattle.flu_readers.proofs.Events.{events_of_clock}
use Rattle.flu_readers.proofs.Parts.{same_list, stream_at}
use Rattle.flu_readers.proofs.Placed.{IsFromRow, from_row}
use Rattle.flu_readers.proofs.Ticks.{read_among, reach_among, tick_further, is_tick, tick_there, tick_between}
use Rattle.flu_readers.proofs.Ticks.{IsOfClock, of_clock, ticks_of_itag, list_of_clock}

-- ---- moments
-- in the newest version a moment is a rank and a place in it
moment_newer : (several : Bool) (count ties time number b : ℕ) → several ≡ true → 0 < count
    → time * (if several then max 1 count * ties else 1) + (if several then number * ties else 0) + b ≡ (time * count + number) * ties + b
moment_newer true count ties time number b e some =
    let most : max 1 count ≡ count = omega (arith, some) in ap (λ m. time * (m * ties) + number * ties + b) most ∙ omega arith
moment_newer false count ties time number b e some = absurd cc

moment_is : (p : Program) (number time before : ℕ) → p.version ≡ 3 → 0 < length p.sources
    → moment_at (timing_of p number) time before ≡ (time * length p.sources + number) * p.ties + min before (p.ties - 1)
moment_is p number time before newer some =
    moment_newer (p.version == 3) (length p.sources) p.ties time number (min before (p.ties - 1)) (ap (λ v. v == 3) newer) some

-- a row that is not behind a tick of another source is before it
row_before_tick : (count ties u m b t n : ℕ) → 0 < ties → m < count → n < count → (m ≡ n → ⊥)
    → (u * count + m) * ties + min b (ties - 1) ≤ (t * count + n) * ties + min 0 (ties - 1) → u * count + m < t * count + n
row_before_tick count ties u m b t n any lt lt' other le =
    elim (cases_lt (u * count + m) (t * count + n)) [
      | inl less ↦ less
      | inr more ↦ elim (cases_lt (t * count + n) (u * count + m)) [
        | inl above ↦ (let far = row_below (t * count + n) 0 (u * count + m) ties any above in absurd (omega (arith, le, far)))
        | inr below ↦
            let same : u * count + m ≡ t * count + n = omega (arith, more, below) in
            let time : u ≡ t = sym (source_within count u m lt) ∙ ap (λ r. r / count) same ∙ source_within count t n lt' in
            let lines : u * count ≡ t * count = ap (λ k. k * count) time in
            absurd (other (omega (arith, same, lines)))
      ]
    ]

-- and before a tick that its rank is before
rank_before : (ties a b c : ℕ) → 0 < ties → a < c → a * ties + min b (ties - 1) < c * ties + min 0 (ties - 1)
rank_before ties a b c any less = let below = row_below a (min b (ties - 1)) c ties (omega (arith, any)) less in omega (arith, below)

tick_before : (count ties early t n : ℕ) → 0 < ties → 0 < count → early < t
    → (early * count + n) * ties + min 0 (ties - 1) < (t * count + n) * ties + min 0 (ties - 1)
tick_before count ties early t n any some less =
    let lines = row_below early 0 t count some less in rank_before ties (early * count + n) 0 (t * count + n) any (omega (arith, lines))

-- ---- the order of events
before_by_time : (x y : Event) → x.time < y.time → is_before x y ≡ true
before_by_time x y less = or_left (nat_lt x.time y.time) (x.time == y.time && nat_lt x.itag.0 y.itag.0) (lt_true x.time y.time less)

not_behind : (x y : Event) → is_before x y ≡ true → x.time ≤ y.time
not_behind x y e =
    elim (or_cases (nat_lt x.time y.time) (x.time == y.time && nat_lt x.itag.0 y.itag.0) e) [
      | inl less ↦ (let lt = true_lt x.time y.time less in omega (arith, lt))
      | inr level ↦ (let same = true_eq x.time y.time (and_left (x.time == y.time) _ level) in omega (arith, same))
    ]

-- ---- events that are sent
-- what an event that fails is, which is needed
fails_only : (needed ticks there : Bool) → (needed && (not ticks || there)) ≡ false → needed ≡ true → (ticks ≡ true) × (there ≡ false)
fails_only true true false e is = (refl, refl)
fails_only true true true e is = absurd cc
fails_only true false there e is = absurd cc
fails_only false ticks there e is = absurd cc

passes_only : (needed ticks there : Bool) → (needed && (not ticks || there)) ≡ true → ticks ≡ true → there ≡ true
passes_only needed true true e is = refl
passes_only true true false e is = cc
passes_only false true false e is = cc
passes_only needed false there e is = absurd cc

module _ (ranks : LawOfRanks) (lists : LawOfLists) (ticks : LawOfTicks) (lengths : LawOfLength) (p : Program) (nodes : List Node) (w : ℕ) (left : Contents)
    (may : MayBeApart p nodes w) (streams : are_streams 0 (lists_of p left) ≡ true)
    (part_streams : are_streams 0 (lists_of p (selected p (reads p nodes w) left)) ≡ true) where
  abbrev whole : List (List Item)
  whole = lists_of p left

  abbrev chosen : Contents
  chosen = selected p (reads p nodes w) left

  abbrev part : List (List Item)
  part = lists_of p chosen

  abbrev of_whole : ℕ → List Event
  of_whole i = events_of (slice_index_or whole i [])

  abbrev of_part : ℕ → List Event
  of_part i = events_of (slice_index_or part i [])

  whole_len : length whole ≡ count_of_itags p
  whole_len = lengths p [] left

  part_len : length part ≡ count_of_itags p
  part_len = lengths p [] chosen

  rows_among : (m : ℕ) → Contains (ranks_in p chosen) m → Contains (ranks_in p left) m
  rows_among m there = read_among p (reads p nodes w) left m (subst (λ rs. Contains rs m) (ranks p (reads p nodes w) left) there)

  -- THE TEST: an event is needed, and if it is a tick the part has it
  in_part : Event → Bool
  in_part x = list_any (λ (y : Event). y.time == x.time) (of_part x.itag.0)

  is_sent : Event → Bool
  is_sent x = is_needed p nodes w x && (not (has_ticks p x.itag.0) || in_part x)

  -- ---- the itag of a clock
  module _ (i : ℕ) (lt : i < count_of_itags p) (clock : IsOfClock p i) where
    abbrev number : ℕ
    number = source_of_itag p (itag i)

    abbrev event_at : ℕ → Event
    event_at t = tick_event (timing_of p number) i t

    abbrev part_ticks : List ℕ
    part_ticks = ticks_of_itag p i clock (ranks_in p chosen)

    abbrev whole_ticks : List ℕ
    whole_ticks = ticks_of_itag p i clock (ranks_in p left)

    part_events : of_part i ≡ map event_at part_ticks
    part_events = ap events_of (list_of_clock ticks p [] chosen i lt clock) ∙ events_of_clock (timing_of p number) i part_ticks

    whole_events : of_whole i ≡ map event_at whole_ticks
    whole_events = ap events_of (list_of_clock ticks p [] left i lt clock) ∙ events_of_clock (timing_of p number) i whole_ticks

    tick_among_all : (t : ℕ) → Contains part_ticks t → Contains whole_ticks t
    tick_among_all t there =
        tick_there (length p.sources) 1 clock.every number (omega arith) clock.declared clock.some (ranks_in p left) t
        (tick_further (length p.sources) 1 clock.every number (ranks_in p chosen) (ranks_in p left)
        (reach_among (ranks_in p chosen) (ranks_in p left) rows_among) t
        (is_tick (length p.sources) 1 clock.every number (omega arith) clock.declared clock.some (ranks_in p chosen) t there))

    tick_in_part : (t : ℕ) → Contains part_ticks t → in_part (event_at t) ≡ true
    unfolding in_part
    tick_in_part t there =
        any_there (λ (y : Event). y.time == moment_at (timing_of p number) t 0) (of_part i) (event_at t)
        (subst (λ xs. Contains xs (event_at t)) (sym part_events) (in_map event_at part_ticks t there)) (same_number (moment_at (timing_of p number) t 0))

    part_has_tick : (t : ℕ) → in_part (event_at t) ≡ true → Contains part_ticks t
    unfolding in_part
    part_has_tick t is =
        let found = any_found (λ (y : Event). y.time == moment_at (timing_of p number) t 0) (of_part i) is in
        let own = of_map event_at part_ticks found.0 (subst (λ xs. Contains xs found.0) part_events found.1) in
        let fits = timing_fits p number clock.declared in
        let level : moment_at (timing_of p number) own.0 0 ≡ moment_at (timing_of p number) t 0 =
        ap (λ (y : Event). y.time) own.2 ∙ true_eq found.0.time (moment_at (timing_of p number) t 0) found.2 in
        let same : own.0 ≡ t =
        sym (time_of-moment (timing_of p number) fits own.0 0) ∙ ap (λ m. m / (timing_of p number).scale) level
        ∙ time_of-moment (timing_of p number) fits t 0 in
        subst (Contains part_ticks) same own.1

    sent_tick : (t : ℕ) → is_sent (event_at t) ≡ true → Contains part_ticks t
    unfolding is_sent
    sent_tick t is = part_has_tick t (passes_only (is_needed p nodes w (event_at t)) (has_ticks p i) (in_part (event_at t)) is clock.ticks)

    ticks_pass_alike : filter is_sent (of_part i) ≡ filter is_sent (of_whole i)
    ticks_pass_alike =
        let f : ℕ → Bool = λ t. is_sent (event_at t) in
        let rising = λ (rows : List ℕ). IsStrictlyIncreasing-filter f (ticks_of_itag p i clock rows)
        (ticks_are_computed (length p.sources) 1 clock.every number rows (omega arith) clock.declared clock.some).rising in
        let same : filter f part_ticks ≡ filter f whole_ticks =
        only_rising (filter f part_ticks) (filter f whole_ticks) (rising (ranks_in p chosen)) (rising (ranks_in p left)) (λ t. (
          λ there. (let own = of_kept f part_ticks t there in in_kept f whole_ticks t (tick_among_all t own.0) own.1),
          λ there. (let own = of_kept f whole_ticks t there in in_kept f part_ticks t (sent_tick t own.1) own.1),
        )) in
        ap (filter is_sent) part_events ∙ filter_mapped is_sent event_at part_ticks ∙ ap (map event_at) same
        ∙ sym (filter_mapped is_sent event_at whole_ticks) ∙ ap (filter is_sent) (sym whole_events)

    -- ---- a tick that the part lacks
    module _ (y : Event) (t : ℕ) (same : event_at t ≡ y) (there : Contains whole_ticks t) (lacks : ¬ Contains part_ticks t)
        (above : is_above p nodes w y ≡ true) where
      -- of an event inside that is before it: the tick between them
      between : (x : Event) → x.itag.0 < count_of_itags p → has_ticks p x.itag.0 ≡ false → IsFromRow p chosen x.itag.0 x → is_before x y ≡ true
          → (z : Event) × Contains (merged whole) z × (is_above p nodes w z ≡ true) × (is_before x z ≡ true) × (is_before z y ≡ true)
      between x within no_ticks row before =
          let count = length p.sources in
          let declared = clock.declared in
          let some : 0 < count = omega (arith, declared) in
          let any : 0 < p.ties = has_ties p in
          let m = source_of_itag p (itag x.itag.0) in
          let other : m ≡ number → ⊥ =
          λ e. not_both (has_ticks p i) clock.ticks (sym (ap (λ n. option_map_or is_clock (slice_get p.sources n) false) e) ∙ no_ticks) in
          let row_at : x.time ≡ (row.time * count + m) * p.ties + min row.before (p.ties - 1) = row.at ∙ moment_is p m row.time row.before clock.newer some in
          let tick_at = λ (u : ℕ). moment_is p number u 0 clock.newer some in
          let late = not_behind x (event_at t) (ap (is_before x) same ∙ before) in
          let own_at = tick_at t in
          let rank : row.time * count + m < t * count + number =
          row_before_tick count p.ties row.time m row.before t number any row.declared clock.declared other (omega (arith, late, row_at, own_at)) in
          let is = is_tick count 1 clock.every number (omega arith) clock.declared clock.some (ranks_in p left) t there in
          let next = tick_between count 1 clock.every number (omega arith) clock.declared clock.some (ranks_in p chosen) (moment count 1 row.time m 0) t
          row.ranked (omega (arith, rank)) is.multiple lacks in
          let behind = next.2 in
          let next_at = tick_at next.0 in
          let first = rank_before p.ties (row.time * count + m) row.before (next.0 * count + number) any (omega (arith, behind)) in
          let second = tick_before count p.ties next.0 t number any some next.3 in (
            event_at next.0,
            in_merged whole i (event_at next.0)
                (subst (λ xs. Contains xs (event_at next.0)) (sym whole_events) (in_map event_at whole_ticks next.0 (tick_among_all next.0 next.1))),
            ap (is_above p nodes w) same ∙ above,
            before_by_time x (event_at next.0) (omega (arith, first, row_at, next_at)),
            ap (is_before (event_at next.0)) (sym same) ∙ before_by_time (event_at next.0) (event_at t) (omega (arith, second, next_at, own_at)),
          )

  -- ---- the events of each itag
  needs_not : (items : List Item) (i : ℕ) → is_stream_from i 0 items ≡ true → needs_itag p nodes w i ≡ false → (x : Event) → Contains (events_of items) x
      → is_sent x ≡ false
  unfolding is_sent
  needs_not items i stream not_needed x there =
      ap (λ b. b && (not (has_ticks p x.itag.0) || in_part x)) (ap (needs_itag p nodes w) (stream_itag i 0 items x stream there) ∙ not_needed)

  stream_in : (ls : List (List Item)) (i : ℕ) → length ls ≡ count_of_itags p → are_streams 0 ls ≡ true → i < count_of_itags p
      → is_stream_from i 0 (slice_index_or ls i []) ≡ true
  stream_in ls i len all lt =
      let place : i ≡ 0 + i = omega arith in
      ap (λ n. is_stream_from n 0 (slice_index_or ls i [])) place ∙ stream_at 0 ls i all (omega (arith, len, lt))

  pass_alike : (i : ℕ) → filter is_sent (of_part i) ≡ filter is_sent (of_whole i)
  pass_alike i =
      elim (cases_lt i (count_of_itags p)) [
        | inl lt ↦ elim (cases_Bool (needs_itag p nodes w i)) [
          | inl needed ↦ elim (cases_Bool (has_ticks p i)) [
            | inl is ↦ ticks_pass_alike i lt (of_clock p i is)
            | inr file ↦ ap (λ items. filter is_sent (events_of items)) (same_list lists lengths p (needs_itag p nodes w) [] left i file needed)
          ]
          | inr not_needed ↦
              none_pass is_sent (of_part i) (needs_not (slice_index_or part i []) i (stream_in part i part_len part_streams lt) not_needed)
              ∙ sym (none_pass is_sent (of_whole i) (needs_not (slice_index_or whole i []) i (stream_in whole i whole_len streams lt) not_needed))
        ]
        | inr past ↦
            let part_len = part_len in
            let whole_len = whole_len in
            ap (λ items. filter is_sent (events_of items))
            (get_or_past part i [] (omega (arith, past, part_len)) ∙ sym (get_or_past whole i [] (omega (arith, past, whole_len))))
      ]

  -- ---- what is needed and lacks is idle
  in_range : (x : Event) → Contains (merged whole) x → x.itag.0 < count_of_itags p
  in_range x there = let within = (of_merged whole x streams there).0 in let len = whole_len in omega (arith, within, len)

  row_of : (x : Event) → Contains (merged whole) x → is_inside p nodes w x ≡ true → IsFromRow p chosen x.itag.0 x
  row_of x there inner =
      let lt = in_range x there in
      let file = may.no_clock x.itag.0 lt inner in
      let needed : needs_itag p nodes w x.itag.0 ≡ true = or_left (is_inside p nodes w x) (is_above p nodes w x) inner in
      let same = same_list lists lengths p (needs_itag p nodes w) [] left x.itag.0 file needed in
      from_row p [] chosen x.itag.0 x lt file (subst (λ items. Contains (events_of items) x) (sym same) (of_merged whole x streams there).1)

  idle : (y : Event) → Contains (merged whole) y → is_sent y ≡ false → is_needed p nodes w y ≡ true → IsIdle p nodes w (merged whole) y
  unfolding is_sent
  idle y there fails needed =
      let lt = in_range y there in
      let i = y.itag.0 in
      let only = fails_only (is_needed p nodes w y) (has_ticks p i) (in_part y) fails needed in
      let clock = of_clock p i only.0 in
      let outer : is_inside p nodes w y ≡ false = elim (cases_Bool (is_inside p nodes w y)) [
        | inl inner ↦ absurd (not_both (has_ticks p i) only.0 (may.no_clock i lt inner))
        | inr outer ↦ outer
      ] in
      let over : is_above p nodes w y ≡ true = elim (or_cases (is_inside p nodes w y) (is_above p nodes w y) needed) [
        | inl inner ↦ absurd (not_both (is_inside p nodes w y) inner outer)
        | inr over ↦ over
      ] in
      let own = of_map (event_at i lt clock) (whole_ticks i lt clock) y
      (subst (λ xs. Contains xs y) (whole_events i lt clock) (of_merged whole y streams there).1) in
      let lacks : ¬ Contains (part_ticks i lt clock) own.0 =
      λ has. not_both (in_part y) (ap in_part (sym own.2) ∙ tick_in_part i lt clock own.0 has) only.1 in
      record {
        outside = outer;
        closed = λ x among inner before.
            between i lt clock y own.0 own.2 own.1 lacks over x (in_range x among) (may.no_clock x.itag.0 (in_range x among) inner) (row_of x among inner)
            before;
      }

  -- the part lacks none of its own events
  has_all : (y : Event) → Contains (merged part) y → is_sent y ≡ false → is_needed p nodes w y ≡ true → IsIdle p nodes w (merged part) y
  unfolding is_sent in_part
  has_all y there fails needed =
      let only = fails_only (is_needed p nodes w y) (has_ticks p y.itag.0) (in_part y) fails needed in
      absurd (not_both (in_part y)
      (any_there (λ (x : Event). x.time == y.time) (of_part y.itag.0) y (of_merged part y part_streams there).1 (same_number y.time)) only.1)

  -- WHAT IS SENT of the part is what would be sent of the whole
  pub sends_alike : IdleEventsDontMatter → MergedListsPassAlike → MergedEventsRiseStrictly → (opening : Cells)
      → sent (contributions p nodes w opening (merged part)) ≡ sent (contributions p nodes w opening (merged whole))
  sends_alike matter alike rise opening =
      sym (matter p nodes w opening is_sent (merged part) (rise part part_streams) has_all)
      ∙ ap (λ xs. sent (contributions p nodes w opening xs)) (alike is_sent whole part streams part_streams (part_len ∙ sym whole_len) pass_alike)
      ∙ matter p nodes w opening is_sent (merged whole) (rise whole streams) idle
