-- The ticks of a clock among some rows, and among others: those among some of the rows are ticks among all of them, and rows tell the same ticks where the
-- ones reach as far as the others.
use Rattle.std.proofs.Common.{◌≡◌, ◌<◌, ◌≤◌, ◌+◌, ◌%◌, ℕ, min, max, Bool, true, false, List, [], ◌∷◌, ◌++◌, length, take, Option, Some, None}
use Rattle.std.proofs.Common.{refl, ap, subst, ◌∙◌, inl, inr, arith}
use Rattle.std.specs.Prelude.{Any, Contains, slice_get, slice_index_or, is_some, if◌then◌else◌}
use Rattle.std.specs.List.{list_any}
use Rattle.std.specs.Option.{option_map_or}
use Rattle.std.proofs.lemmas.Bool.{cases_lt, cases_eq}
use Rattle.std.proofs.lemmas.List.{length-take-le}
use Rattle.std.proofs.lemmas.List.Elements.{All-contains}
use Rattle.std.proofs.lemmas.Option.{slice_get_within}
use Rattle.flu_lemmas.proofs.Containing.{contains_here, contains_later, contains_cases, contains_none, contains_one}
use Rattle.flu_model.specs.declared.jobs.Program.{Program}
use Rattle.flu_model.specs.declared.jobs.Source.{Source}
use Rattle.flu_model.specs.Itags.{count_of_itags, source_of_itag}
use Rattle.flu_model.specs.Moments.{timing_of}
use Rattle.flu_model.specs.Rules.{is_clock}
use Rattle.flu_moments.specs.Clocks.{tick_moment, IsTick, first_of, last_of, ticks_among}
use Rattle.flu_moments.proofs.ComputedLemmas.{ticks_are_computed}
use Rattle.flu_moments.proofs.FollowLemmas.{ticks_follow}
use Rattle.flu_moments.proofs.StepLemmas.{only_rising}
use Rattle.flu_moments.proofs.TickLemmas.{any_from_contains, any_within}
use Rattle.flu_outside.specs.Outside.{Contents}
use Rattle.flu_selected.specs.Laws.{LawOfTicks, read_ranks, read_ranks_of}
use Rattle.flu_selected.specs.Spans.{span_of_ranks}
use Rattle.flu_streams.specs.Before.{each_with_before}
use Rattle.flu_streams.specs.Clocks.{items_of_ticks, has_ticks}
use Rattle.flu_streams.specs.Good.{ranks_in, lists_beside}
use Rattle.flu_streams.proofs.Spans.{period_some, any_clock, clocks_are_newer}
use Rattle.flu_apart.specs.Classes.{itag}
use Rattle.flu_readers.proofs.Events.{in_flat, of_flat}

-- ---- rows that reach as far as others
-- each of some rows has another row that is not behind it, and one that is not before it
pub record Reach (rows others : List ℕ) : Type 0 where
  pub low : (m : ℕ) → Contains rows m → (a : ℕ) × Contains others a × (a ≤ m)
  pub high : (m : ℕ) → Contains rows m → (b : ℕ) × Contains others b × (m ≤ b)

pub reach_among : (rows others : List ℕ) → ((m : ℕ) → Contains rows m → Contains others m) → Reach rows others
reach_among rows others among = record { low = λ m there. (m, among m there, omega arith); high = λ m there. (m, among m there, omega arith) }

module _ (sources ties every clock : ℕ) where
  abbrev at : ℕ → ℕ
  at = tick_moment sources ties clock

  -- a tick among these is one among those
  pub tick_further : (rows others : List ℕ) → Reach rows others → (time : ℕ) → IsTick sources ties every clock rows time
      → IsTick sources ties every clock others time
  tick_further rows others reach time is = record {
    multiple = is.multiple;
    after_a_row =
        let row = any_within (λ m. m < at time) rows is.after_a_row in
        let less = row.2 in
        let low = reach.low row.0 row.1 in
        let le = low.2 in
        any_from_contains (λ m. m < at time) low.0 others low.1 (omega (arith, less, le));
    none_after_all = λ earlier multiple less.
        let row = any_within (λ m. at earlier ≤ m) rows (is.none_after_all earlier multiple less) in
        let over = row.2 in
        let high = reach.high row.0 row.1 in
        let le = high.2 in
        any_from_contains (λ m. at earlier ≤ m) high.0 others high.1 (omega (arith, over, le));
  }

  module _ (any : 0 < ties) (in_range : clock < sources) (some : 0 < every) where
    abbrev ticks : List ℕ → List ℕ
    ticks rows = ticks_among sources ties every clock rows

    -- the list has the ticks
    pub is_tick : (rows : List ℕ) (time : ℕ) → Contains (ticks rows) time → IsTick sources ties every clock rows time
    is_tick rows time there = ((ticks_are_computed sources ties every clock rows any in_range some).each time).0 there

    pub tick_there : (rows : List ℕ) (time : ℕ) → IsTick sources ties every clock rows time → Contains (ticks rows) time
    tick_there rows time is = ((ticks_are_computed sources ties every clock rows any in_range some).each time).1 is

    -- rows that reach as far as each other tell the same ticks
    pub ticks_alike : (rows others : List ℕ) → Reach rows others → Reach others rows → ticks rows ≡ ticks others
    ticks_alike rows others reach back =
        only_rising (ticks rows) (ticks others) (ticks_are_computed sources ties every clock rows any in_range some).rising
        (ticks_are_computed sources ties every clock others any in_range some).rising (λ time. (
          λ there. tick_there others time (tick_further rows others reach time (is_tick rows time there)),
          λ there. tick_there rows time (tick_further others rows back time (is_tick others time there)),
        ))

    -- A tick that is none among some rows, one of which is before it, comes behind one that is, and that is behind the row
    pub tick_between : (rows : List ℕ) (m time : ℕ) → Contains rows m → m < at time → time % every ≡ 0 → ¬ Contains (ticks rows) time
        → (early : ℕ) × Contains (ticks rows) early × (m < at early) × (early < time)
    tick_between rows m time there less multiple none =
        let follows = ticks_follow sources ties every clock any in_range some rows (ticks rows)
        (ticks_are_computed sources ties every clock rows any in_range some) in
        let next = any_within (λ t. m < at t) (ticks rows) (All-contains (λ n. Any (λ t. n < at t) (ticks rows)) rows m follows.each_row there) in
        elim (cases_lt next.0 time) [
          | inl early ↦ (next.0, next.1, next.2, early)
          | inr le ↦ elim (cases_eq next.0 time) [
            | inl same ↦ absurd (none (subst (Contains (ticks rows)) same next.1))
            | inr other ↦
                let far : time < next.0 = omega (arith, le, other) in
                let is = is_tick rows next.0 next.1 in
                absurd (none (tick_there rows time (record {
                  multiple = multiple;
                  after_a_row = any_from_contains (λ n. n < at time) m rows there less;
                  none_after_all = λ earlier each before. is.none_after_all earlier each (omega (arith, before, far));
                })))
          ]
        ]

-- ---- the first and the last of some rows
first_there : (m : ℕ) (ms : List ℕ) → Contains (m ∷ ms) (first_of m ms)
first_there m [] = contains_here m []
first_there m (x ∷ xs) =
    elim (cases_lt (first_of x xs) m) [
      | inl less ↦ (let e : first_of x xs ≡ min m (first_of x xs) = omega (arith, less) in
          subst (Contains (m ∷ x ∷ xs)) e (contains_later m (first_of x xs) (x ∷ xs) (first_there x xs)))
      | inr le ↦ (let e : m ≡ min m (first_of x xs) = omega (arith, le) in subst (Contains (m ∷ x ∷ xs)) e (contains_here m (x ∷ xs)))
    ]

last_there : (m : ℕ) (ms : List ℕ) → Contains (m ∷ ms) (last_of m ms)
last_there m [] = contains_here m []
last_there m (x ∷ xs) =
    elim (cases_lt m (last_of x xs)) [
      | inl less ↦ (let e : last_of x xs ≡ max m (last_of x xs) = omega (arith, less) in
          subst (Contains (m ∷ x ∷ xs)) e (contains_later m (last_of x xs) (x ∷ xs) (last_there x xs)))
      | inr le ↦ (let e : m ≡ max m (last_of x xs) = omega (arith, le) in subst (Contains (m ∷ x ∷ xs)) e (contains_here m (x ∷ xs)))
    ]

first_below : (m : ℕ) (ms : List ℕ) (x : ℕ) → Contains (m ∷ ms) x → first_of m ms ≤ x
first_below m [] x there = let same = contains_one m x there in omega (arith, same)
first_below m (y ∷ ys) x there =
    elim (contains_cases m x (y ∷ ys) there) [
      | inl same ↦ omega (arith, same)
      | inr later ↦ (let le = first_below y ys x later in omega (arith, le))
    ]

last_above : (m : ℕ) (ms : List ℕ) (x : ℕ) → Contains (m ∷ ms) x → x ≤ last_of m ms
last_above m [] x there = let same = contains_one m x there in omega (arith, same)
last_above m (y ∷ ys) x there =
    elim (contains_cases m x (y ∷ ys) there) [
      | inl same ↦ omega (arith, same)
      | inr later ↦ (let le = last_above y ys x later in omega (arith, le))
    ]

-- they are among them, and reach as far
pub span_among : (ranks : List ℕ) (x : ℕ) → Contains (span_of_ranks ranks) x → Contains ranks x
span_among [] x there = there
span_among (m ∷ ms) x there =
    elim (contains_cases (first_of m ms) x (last_of m ms ∷ []) there) [
      | inl first ↦ subst (Contains (m ∷ ms)) first (first_there m ms)
      | inr later ↦ subst (Contains (m ∷ ms)) (contains_one (last_of m ms) x later) (last_there m ms)
    ]

pub span_reaches : (ranks : List ℕ) → Reach ranks (span_of_ranks ranks)
span_reaches [] = record { low = λ m there. (m, there, omega arith); high = λ m there. (m, there, omega arith) }
span_reaches (r ∷ rs) = record {
  low = λ m there. (first_of r rs, contains_here (first_of r rs) (last_of r rs ∷ []), first_below r rs m there);
  high = λ m there. (
    last_of r rs,
    contains_later (first_of r rs) (last_of r rs) (last_of r rs ∷ []) (contains_here (last_of r rs) []),
    last_above r rs m there,
  );
}

-- ---- the rows that are read are among all
pub read_among : (p : Program) (is_read : ℕ → Bool) (left : Contents) (m : ℕ) → Contains (read_ranks p is_read left) m → Contains (ranks_in p left) m
read_among p is_read left m there =
    let own = of_flat (read_ranks_of p is_read left) (each_with_before p.sources) m there in
    in_flat _ (each_with_before p.sources) own.0 m own.1 (unread (is_read (length own.0.0)) _ own.2)
  where
    unread : (b : Bool) (ranks : List ℕ) → Contains (if b then ranks else []) m → Contains ranks m
    unread true ranks here = here
    unread false ranks here = absurd (contains_none m here)

-- ---- the itags of clocks
-- the source of an itag is a clock with this period
pub record IsOfClock (p : Program) (i : ℕ) : Type 0 where
  pub source : Source
  pub every : ℕ
  pub there : slice_get p.sources (source_of_itag p (itag i)) ≡ Some source
  pub is : source.every ≡ Some every
  pub some : 0 < every
  pub newer : p.version ≡ 3
  pub any : list_any is_clock p.sources ≡ true
  pub declared : source_of_itag p (itag i) < length p.sources
  pub ticks : has_ticks p i ≡ true

pub of_clock : (p : Program) (i : ℕ) → has_ticks p i ≡ true → IsOfClock p i
of_clock p i ticks = by_source (slice_get p.sources n) refl ticks
  where
    n : ℕ
    n = source_of_itag p (itag i)

    by_every : (s : Source) → slice_get p.sources n ≡ Some s → (o : Option ℕ) → s.every ≡ o → is_some o ≡ true → IsOfClock p i
    by_every s at None e clock = absurd cc
    by_every s at (Some every) e clock = record {
      source = s;
      every = every;
      there = at;
      is = e;
      some = period_some p n s every at e;
      newer = clocks_are_newer p (any_clock p.sources n s at (ap is_some e));
      any = any_clock p.sources n s at (ap is_some e);
      declared = slice_get_within p.sources n s at;
      ticks = ticks;
    }

    by_source : (o : Option Source) → slice_get p.sources n ≡ o → option_map_or is_clock o false ≡ true → IsOfClock p i
    by_source None e clock = absurd cc
    by_source (Some s) e clock = by_every s e s.every refl clock

-- the ticks of the clock of an itag among some rows
abbrev pub ticks_of_itag : (p : Program) (i : ℕ) → IsOfClock p i → List ℕ → List ℕ
ticks_of_itag p i clock rows = ticks_among (length p.sources) 1 clock.every (source_of_itag p (itag i)) rows

-- its list has these ticks
pub list_of_clock : LawOfTicks → (p : Program) (beside : List ℕ) (left : Contents) (i : ℕ) → i < count_of_itags p → (clock : IsOfClock p i)
    → slice_index_or (lists_beside p beside left) i []
    ≡ items_of_ticks (timing_of p (source_of_itag p (itag i))) i (ticks_of_itag p i clock (beside ++ ranks_in p left))
list_of_clock law p beside left i lt clock =
    let n = source_of_itag p (itag i) in
    let rows = beside ++ ranks_in p left in
    let declared = clock.declared in
    let number : length (take n p.sources) ≡ n = length-take-le n p.sources (omega (arith, declared)) in
    law p beside left i clock.source lt clock.there (ap is_some clock.is)
    ∙ ap (λ o. items_of_ticks (timing_of p n) i (option_map_or (λ every. ticks_among (length p.sources) 1 every (length (take n p.sources)) rows) o []))
    clock.is
    ∙ ap (λ k. items_of_ticks (timing_of p n) i (ticks_among (length p.sources) 1 clock.every k rows)) number
