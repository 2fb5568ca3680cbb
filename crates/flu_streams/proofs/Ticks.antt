-- What was read of the sources up to a border tells the ticks of clocks up to it, whatever is read later.
use Rattle.std.proofs.Common.{◌≡◌, inl, inr, ◌⊎◌, ◌<◌, ◌≤◌, ◌+◌, ◌-◌, ℕ, zero, suc, max, Bool, true, false, cond, List, [], ◌∷◌, ◌++◌, map, length}
use Rattle.std.proofs.Common.{Option, Some, None, refl, sym, ap, ◌∙◌, length-append, arith, subst}
use Rattle.std.specs.Prelude.{nat_le, ◌&&◌, unwrap_or, slice_get, if◌then◌else◌, Contains}
use Rattle.std.specs.List.{filter, flat_map, AllByRecursion}
use Rattle.std.specs.Option.{option_map_or}
use Rattle.std.proofs.lemmas.Bool.{cases_lt}
use Rattle.std.proofs.lemmas.Bool.Decides.{nat_tests}
use Rattle.std.proofs.lemmas.List.Elements.{filter_map-append, All-weaker, All-contains_itself}
use Rattle.std.proofs.lemmas.List.Elements.{Contains-append_left, Contains-append_right, Contains-append_cases}
use Rattle.std.proofs.lemmas.Option.{slice_get_within}
use Rattle.flu_lemmas.specs.Elements.{AtEach}
use Rattle.flu_lemmas.proofs.Containing.{contains_here, contains_later, contains_cases, contains_none}
use Rattle.flu_lemmas.proofs.Elements.{all_map}
use Rattle.flu_model.specs.declared.jobs.Source.{Source}
use Rattle.flu_model.specs.declared.jobs.Program.{Program}
use Rattle.flu_model.specs.declared.moments.Timing.{Timing}
use Rattle.flu_model.specs.Moments.{timing_of}
use Rattle.flu_moments.specs.Clocks.{ticks_among}
use Rattle.flu_moments.specs.Moments.{moment, border}
use Rattle.flu_moments.specs.TickLaws.{IsFrontAt}
use Rattle.flu_moments.proofs.FrontLemmas.{fronts_tell_ticks}
use Rattle.flu_rows.specs.declared.row.Row.{Row}
use Rattle.flu_rows.specs.declared.row.Row.TheVariants.{Event as EventRow, Beat as BeatRow, End as EndRow}
use Rattle.flu_rows.specs.declared.rows.Next.{Next}
use Rattle.flu_streams.specs.declared.border.Border.TheVariants.{At}
use Rattle.flu_streams.specs.Before.{with_before, each_with_before}
use Rattle.flu_streams.specs.Clocks.{Declared, ranks_of, ranks_among, ticks_of}
use Rattle.flu_streams.specs.Good.{lists_of_source}
use Rattle.flu_streams.specs.Rounds.{settled, settled_time, is_above, Turn, Open, Shut, Meets, Reads, IsWithin, IsRoundAt, ranks, rows_between}
use Rattle.flu_streams.specs.Rounds.{ticks_between, lists_between}
use Rattle.flu_streams.specs.Tests.{row_in, rows_of, time_in, times_of, greatest, margin}
use Rattle.flu_streams.proofs.Moments.{product_le}
use Rattle.flu_streams.proofs.RoundLaws.{each_source, flat_same, filter_twice, filter_alike}
use Rattle.flu_streams.proofs.Spans.{clock_is_newer, period_some}

-- ---- what a list of images has
in_mapped : {X Y : Type 0} (f : X → Y) (xs : List X) (y : Y) → Contains (map f xs) y → (x : X) × Contains xs x × (f x ≡ y)
in_mapped f [] y there = absurd (contains_none y there)
in_mapped f (x ∷ xs) y there =
    elim (contains_cases (f x) y (map f xs) there) [
      | inl e ↦ (x, contains_here x xs, e)
      | inr later ↦ (let rest = in_mapped f xs y later in (rest.0, contains_later x rest.0 xs rest.1, rest.2))
    ]

mapped_in : {X Y : Type 0} (f : X → Y) (xs : List X) (x : X) → Contains xs x → Contains (map f xs) (f x)
mapped_in f [] x there = absurd (contains_none x there)
mapped_in f (z ∷ xs) x there =
    elim (contains_cases z x xs there) [
      | inl e ↦ subst (λ y. Contains (map f (z ∷ xs)) (f y)) e (contains_here (f z) (map f xs))
      | inr later ↦ contains_later (f z) (f x) (map f xs) (mapped_in f xs x later)
    ]

-- ---- the times of rows
times_further : (read more : List Next) (t : ℕ) → Contains (times_of (rows_of read)) t → Contains (times_of (rows_of (read ++ more))) t
times_further read more t there =
    subst (λ ts. Contains ts t) (sym (ap times_of (filter_map-append row_in read more) ∙ filter_map-append time_in (rows_of read) (rows_of more)))
    (Contains-append_left (times_of (rows_of read)) (times_of (rows_of more)) t there)

-- a time up to a border is that of a row up to it
time_kept : (b t : ℕ) (rows : List Row) → t ≤ b → Contains (times_of rows) t → Contains (times_of (rows_between None (At b) rows)) t
time_kept b t [] le there = absurd (contains_none t there)
time_kept b t (EndRow ∷ rows) le there = time_kept b t rows le there
time_kept b t (BeatRow time ∷ rows) le there =
    elim (nat_le time b) as (λ c. nat_le time b ≡ c
    → Contains (times_of (cond c (BeatRow time ∷ rows_between None (At b) rows) (rows_between None (At b) rows))) t) [
      | true ↦ λ e. elim (contains_cases time t (times_of rows) there) [
        | inl same ↦ subst (Contains (time ∷ times_of (rows_between None (At b) rows))) same (contains_here time (times_of (rows_between None (At b) rows)))
        | inr later ↦ contains_later time t (times_of (rows_between None (At b) rows)) (time_kept b t rows le later)
      ]
      | false ↦ λ e. elim (contains_cases time t (times_of rows) there) [
        | inl same ↦ absurd (grind (arith, nat_tests))
        | inr later ↦ time_kept b t rows le later
      ]
    ] refl
time_kept b t (EventRow time name key fields ∷ rows) le there =
    elim (nat_le time b) as (λ c. nat_le time b ≡ c
    → Contains (times_of (cond c (EventRow time name key fields ∷ rows_between None (At b) rows) (rows_between None (At b) rows))) t) [
      | true ↦ λ e. elim (contains_cases time t (times_of rows) there) [
        | inl same ↦ subst (Contains (time ∷ times_of (rows_between None (At b) rows))) same (contains_here time (times_of (rows_between None (At b) rows)))
        | inr later ↦ contains_later time t (times_of (rows_between None (At b) rows)) (time_kept b t rows le later)
      ]
      | false ↦ λ e. elim (contains_cases time t (times_of rows) there) [
        | inl same ↦ absurd (grind (arith, nat_tests))
        | inr later ↦ time_kept b t rows le later
      ]
    ] refl

kept_time : (b t : ℕ) (rows : List Row) → Contains (times_of (rows_between None (At b) rows)) t → Contains (times_of rows) t
kept_time b t [] there = there
kept_time b t (EndRow ∷ rows) there = kept_time b t rows there
kept_time b t (BeatRow time ∷ rows) there =
    elim (nat_le time b) as (λ c. Contains (times_of (cond c (BeatRow time ∷ rows_between None (At b) rows) (rows_between None (At b) rows))) t
    → Contains (time ∷ times_of rows) t) [
      | true ↦ λ here. elim (contains_cases time t (times_of (rows_between None (At b) rows)) here) [
        | inl same ↦ subst (Contains (time ∷ times_of rows)) same (contains_here time (times_of rows))
        | inr later ↦ contains_later time t (times_of rows) (kept_time b t rows later)
      ]
      | false ↦ λ here. contains_later time t (times_of rows) (kept_time b t rows here)
    ] there
kept_time b t (EventRow time name key fields ∷ rows) there =
    elim (nat_le time b) as (λ c.
    Contains (times_of (cond c (EventRow time name key fields ∷ rows_between None (At b) rows) (rows_between None (At b) rows))) t
    → Contains (time ∷ times_of rows) t) [
      | true ↦ λ here. elim (contains_cases time t (times_of (rows_between None (At b) rows)) here) [
        | inl same ↦ subst (Contains (time ∷ times_of rows)) same (contains_here time (times_of rows))
        | inr later ↦ contains_later time t (times_of rows) (kept_time b t rows later)
      ]
      | false ↦ λ here. contains_later time t (times_of rows) (kept_time b t rows here)
    ] there

greatest_there : (ts : List ℕ) (last : ℕ) → greatest ts ≡ Some last → Contains ts last
greatest_there [] last e = absurd cc
greatest_there (t ∷ ts) last e = by_rest (greatest ts) refl (λ u some. greatest_there ts u some)
  where
    top : max t (unwrap_or (greatest ts) 0) ≡ last
    top = cc

    by_rest : (o : Option ℕ) → greatest ts ≡ o → ((u : ℕ) → greatest ts ≡ Some u → Contains ts u) → Contains (t ∷ ts) last
    by_rest None none rest_there =
        let alone = ap (λ (o : Option ℕ). unwrap_or o 0) none in
        let whole = top in
        let same : t ≡ last = omega arith in
        subst (Contains (t ∷ ts)) same (contains_here t ts)
    by_rest (Some u) some rest_there =
        let rest = ap (λ (o : Option ℕ). unwrap_or o 0) some in
        let whole = top in
        elim (cases_lt t u) [
          | inl less ↦ (let same : u ≡ last = omega arith in subst (Contains (t ∷ ts)) same (contains_later t u ts (rest_there u some)))
          | inr le ↦ (let same : t ≡ last = omega arith in subst (Contains (t ∷ ts)) same (contains_here t ts))
        ]

-- ---- the ranks of all rows
in_flat : (f : ℕ → List ℕ) (pre xs : List Source) (m : ℕ) → Contains (flat_map (λ (e : List Source × Source). f (length e.0)) (with_before pre xs)) m
    → (j : ℕ) × (s : Source) × (slice_get xs j ≡ Some s) × Contains (f (length pre + j)) m
in_flat f pre [] m there = absurd (contains_none m there)
in_flat f pre (x ∷ xs) m there =
    elim (Contains-append_cases (f (length pre)) (flat_map (λ (e : List Source × Source). f (length e.0)) (with_before (pre ++ x ∷ []) xs)) m there) [
      | inl here ↦ (0, x, refl, subst (λ n. Contains (f n) m) (omega arith) here)
      | inr later ↦ (let rest = in_flat f (pre ++ x ∷ []) xs m later in
          (suc rest.0, rest.1, rest.2, subst (λ n. Contains (f n) m) (omega (arith, length-append pre (x ∷ []))) rest.3))
    ]

flat_in : (f : ℕ → List ℕ) (pre xs : List Source) (j : ℕ) (s : Source) (m : ℕ) → slice_get xs j ≡ Some s → Contains (f (length pre + j)) m
    → Contains (flat_map (λ (e : List Source × Source). f (length e.0)) (with_before pre xs)) m
flat_in f pre [] j s m e there = absurd cc
flat_in f pre (x ∷ xs) zero s m e there =
    Contains-append_left (f (length pre)) (flat_map (λ (e : List Source × Source). f (length e.0)) (with_before (pre ++ x ∷ []) xs)) m
    (subst (λ n. Contains (f n) m) (omega arith) there)
flat_in f pre (x ∷ xs) (suc j) s m e there =
    Contains-append_right (f (length pre)) (flat_map (λ (e : List Source × Source). f (length e.0)) (with_before (pre ++ x ∷ []) xs)) m
    (flat_in f (pre ++ x ∷ []) xs j s m e (subst (λ n. Contains (f n) m) (omega (arith, length-append pre (x ∷ []))) there))

module _ (p : Program) where
  abbrev rank : ℕ → ℕ → ℕ
  rank i t = moment (length p.sources) 1 t i 0

  in_ranks : (reads : ℕ → List Next) (m : ℕ) → Contains (ranks p reads) m
      → (i : ℕ) × (s : Source) × (slice_get p.sources i ≡ Some s) × ((t : ℕ) × Contains (times_of (rows_of (reads i))) t × (rank i t ≡ m))
  in_ranks reads m there =
      let at = in_flat (λ n. ranks_of p n (rows_of (reads n))) [] p.sources m there in
      let here : Contains (ranks_of p at.0 (rows_of (reads at.0))) m = subst (λ n. Contains (ranks_of p n (rows_of (reads n))) m) (omega arith) at.3 in
      (at.0, at.1, at.2, in_mapped (rank at.0) (times_of (rows_of (reads at.0))) m here)

  ranks_in : (reads : ℕ → List Next) (i : ℕ) (s : Source) (t : ℕ) → slice_get p.sources i ≡ Some s → Contains (times_of (rows_of (reads i))) t
      → Contains (ranks p reads) (rank i t)
  ranks_in reads i s t e there =
      flat_in (λ n. ranks_of p n (rows_of (reads n))) [] p.sources i s (rank i t) e
      (subst (λ n. Contains (ranks_of p n (rows_of (reads n))) (rank i t)) (omega arith) (mapped_in (rank i) (times_of (rows_of (reads i))) t there))

-- ---- where the rows of all sources stand
-- where rows stand is the same where the rows of each source are
pub ranks_alike : (p : Program) (rows others : Declared → List Row) → AllByRecursion (λ e. rows e ≡ others e) (each_with_before p.sources)
    → ranks_among p rows ≡ ranks_among p others
ranks_alike p rows others same =
    flat_same _ _ (each_with_before p.sources)
    (all_map (λ e. rows e ≡ others e) _ (each_with_before p.sources) (λ e alike. ap (ranks_of p (length e.0)) alike) same)

-- some source is settled up to a border
abbrev pub IsSettled : Program → ℕ → (ℕ → List Next) → Type 0
IsSettled p b reads = (i : ℕ) × (s : Source) × (slice_get p.sources i ≡ Some s) × ((u : ℕ) × (settled_time (timing_of p i) s (reads i) ≡ Some u) × (b ≤ u))

-- what was read up to a border, and what is read later: of each source there are the same rows up to the border. And some source is settled up to it, or no
-- source has any further lines.
pub record ReadsFurther (p : Program) (b : ℕ) (mid now : ℕ → List Next) : Type 0 where
  pub further : AtEach (λ i s. (more : List Next) × (now i ≡ mid i ++ more)) p.sources
  pub same : AtEach (λ i s. (start : Option ℕ) → rows_between start (At b) (rows_of (now i)) ≡ rows_between start (At b) (rows_of (mid i))) p.sources
  pub told : IsSettled p b mid ⊎ AtEach (λ i s. now i ≡ mid i) p.sources

module _ (p : Program) (b : ℕ) (mid now : ℕ → List Next) (is : ReadsFurther p b mid now) where
  row_behind : (timing : Timing) (s : Source) (lines : List Next) (u : ℕ) → timing.several ≡ true → settled_time timing s lines ≡ Some u → b ≤ u
      → (t : ℕ) × Contains (times_of (rows_of lines)) t × (b < t)
  row_behind timing s lines u three at le = by_top (greatest (times_of (rows_of lines))) refl
    where
      wide : 1 ≤ margin timing s.slack
      wide = rw three (omega arith)

      by_top : (top : Option ℕ) → greatest (times_of (rows_of lines)) ≡ top → (t : ℕ) × Contains (times_of (rows_of lines)) t × (b < t)
      by_top None none = absurd (no_time (sym (ap (settled (margin timing s.slack)) none) ∙ at))
        where
          no_time : None ≡ Some u → ⊥
          no_time e = cc
      by_top (Some last) some =
          let settles = by_test (nat_le (margin timing s.slack) last) refl (sym (ap (settled (margin timing s.slack)) some) ∙ at) in
          let enough = wide in
          (last, greatest_there (times_of (rows_of lines)) last some, (let low = settles.0 in let is = settles.1 in omega arith))
        where
          by_test : (c : Bool) → nat_le (margin timing s.slack) last ≡ c → (if c then Some (last - margin timing s.slack) else None) ≡ Some u
              → (margin timing s.slack ≤ last) × (u ≡ last - margin timing s.slack)
          by_test true le e = (grind (arith, nat_tests), cc)
          by_test false gt e = absurd cc

  front_at : p.version ≡ 3 → IsSettled p b mid → IsFrontAt (border (length p.sources) 1 b) (ranks p now) (ranks p mid)
  front_at several behind_at = record {
    within = All-weaker (Contains (ranks p mid)) (Contains (ranks p now)) (λ m there.
        let at = in_ranks p mid m there in
        let time = at.3 in
        let more = is.further at.0 at.1 at.2 in
        subst (Contains (ranks p now)) time.2
        (ranks_in p now at.0 at.1 time.0 at.2
        (subst (λ l. Contains (times_of (rows_of l)) time.0) (sym more.1) (times_further (mid at.0) more.0 time.0 time.1))))
        (ranks p mid) (All-contains_itself (ranks p mid));
    whole = All-weaker (Contains (ranks p now)) (λ m. m ≤ border (length p.sources) 1 b → Contains (ranks p mid) m)
        (λ m there le.
        let at = in_ranks p now m there in
        let time = at.3 in
        let few = slice_get_within p.sources at.0 at.1 at.2 in
        let early : time.0 ≤ b = elim (cases_lt b time.0) [
          | inl later ↦ (let lines = product_le (b + 1) time.0 (length p.sources) (omega arith) in let own = time.2 in absurd (omega arith))
          | inr le' ↦ le'
        ] in
        subst (Contains (ranks p mid)) time.2
        (ranks_in p mid at.0 at.1 time.0 at.2
        (kept_time b time.0 (rows_of (mid at.0)) (subst (λ rows. Contains (times_of rows) time.0) (is.same at.0 at.1 at.2 None)
        (time_kept b time.0 (rows_of (now at.0)) early time.1)))))
        (ranks p now) (All-contains_itself (ranks p now));
    behind =
        let at = behind_at in
        let few = slice_get_within p.sources at.0 at.1 at.2 in
        let row = row_behind (timing_of p at.0) at.1 (mid at.0) at.3.0 (rw several refl) at.3.1 at.3.2 in
        let lines = product_le (b + 1) row.0 (length p.sources) (let over = row.2 in omega arith) in
        let there = ranks_in p mid at.0 at.1 row.0 at.2 row.1 in
        (there.0, moment (length p.sources) 1 row.0 at.0 0, there.1, there.2, omega arith);
  }

  -- the ticks of a clock up to the border
  pub ticks_up_to : (every number : ℕ) → p.version ≡ 3 → 0 < every → number < length p.sources
      → filter (λ time. nat_le time b) (ticks_among (length p.sources) 1 every number (ranks p now))
      ≡ filter (λ time. nat_le time b) (ticks_among (length p.sources) 1 every number (ranks p mid))
  ticks_up_to every number three some few =
      elim is.told [
        | inl settled_at ↦ fronts_tell_ticks.lists (length p.sources) 1 every number b (ranks p now) (ranks p mid) (omega arith) few some
            (front_at three settled_at)
        | inr same ↦ ap (λ rs. filter (λ time. nat_le time b) (ticks_among (length p.sources) 1 every number rs))
            (ranks_alike p _ _ (each_source (λ i s. rows_of (now i) ≡ rows_of (mid i)) p.sources (λ i s e. ap rows_of (same i s e))))
      ]

  abbrev ticks_by : (ℕ → List Next) → ℕ → Option ℕ → List ℕ
  ticks_by reads i o = option_map_or (λ every. ticks_among (length p.sources) 1 every i (ranks p reads)) o []

  abbrev ticks_at : (ℕ → List Next) → ℕ → Source → List ℕ
  ticks_at reads i s = ticks_by reads i s.every

  ticks_same : (i : ℕ) (s : Source) → slice_get p.sources i ≡ Some s
      → filter (λ time. nat_le time b) (ticks_at now i s) ≡ filter (λ time. nat_le time b) (ticks_at mid i s)
  ticks_same i s at = by_every s.every refl
    where
      by_every : (o : Option ℕ) → s.every ≡ o → filter (λ time. nat_le time b) (ticks_by now i o) ≡ filter (λ time. nat_le time b) (ticks_by mid i o)
      by_every None e = refl
      by_every (Some every) e =
          ticks_up_to every i (clock_is_newer p i s every at e) (period_some p i s every at e) (slice_get_within p.sources i s at)

  -- the lists of what was read up to the border
  pub lists_kept : (start : Option ℕ) → lists_between p start (At b) now ≡ lists_between p start (At b) mid
  lists_kept start =
      flat_same _ _ (each_with_before p.sources)
      (all_map (λ (e : Declared). (rows_between start (At b) (rows_of (now (length e.0))) ≡ rows_between start (At b) (rows_of (mid (length e.0))))
      × (filter (λ time. nat_le time b) (ticks_at now (length e.0) e.1) ≡ filter (λ time. nat_le time b) (ticks_at mid (length e.0) e.1))) _
      (each_with_before p.sources)
      (λ e alike. λ j. lists_of_source p (alike.0 j) ((within now e ∙ ap (filter (is_above start)) alike.1 ∙ sym (within mid e)) j) e)
      (each_source (λ i s. (rows_between start (At b) (rows_of (now i)) ≡ rows_between start (At b) (rows_of (mid i)))
      × (filter (λ time. nat_le time b) (ticks_at now i s) ≡ filter (λ time. nat_le time b) (ticks_at mid i s))) p.sources
      (λ i s at. (is.same i s at start, ticks_same i s at))))
    where
      within : (reads : ℕ → List Next) (e : Declared)
          → ticks_between p start (At b) reads e ≡ filter (is_above start) (filter (λ time. nat_le time b) (ticks_of p (ranks p reads) e))
      within reads e = sym (filter_twice (is_above start) (λ time. nat_le time b) (ticks_of p (ranks p reads) e)
          ∙ filter_alike _ _ (λ t. turned (nat_le t b) (is_above start t)) (ticks_of p (ranks p reads) e))
        where
          turned : (a c : Bool) → (a && c) ≡ (c && a)
          turned true true = refl
          turned true false = refl
          turned false true = refl
          turned false false = refl

-- ---- a round
-- of one element there is the one, or else of each the other
some_or_all : (A B : ℕ → Source → Type 0) (xs : List Source) → AtEach (λ i s. A i s ⊎ B i s) xs
    → ((i : ℕ) × (s : Source) × (slice_get xs i ≡ Some s) × A i s) ⊎ AtEach B xs
some_or_all A B [] each = inr (λ i s e. absurd cc)
some_or_all A B (x ∷ xs) each = by_first (each zero x refl) (some_or_all (λ i. A (suc i)) (λ i. B (suc i)) xs (λ i s e. each (suc i) s e))
  where
    all : B zero x → AtEach (λ i. B (suc i)) xs → AtEach B (x ∷ xs)
    all first rest zero s e = let same : x ≡ s = cc in subst (B zero) same first
    all first rest (suc i) s e = rest i s e

    by_first : A zero x ⊎ B zero x → ((i : ℕ) × (s : Source) × (slice_get xs i ≡ Some s) × A (suc i) s) ⊎ AtEach (λ i. B (suc i)) xs
        → ((i : ℕ) × (s : Source) × (slice_get (x ∷ xs) i ≡ Some s) × A i s) ⊎ AtEach B (x ∷ xs)
    by_first (inl here) rest = inl (zero, x, refl, here)
    by_first (inr none) (inl later) = inl (suc later.0, later.1, later.2, later.3)
    by_first (inr none) (inr rest) = inr (all none rest)

-- where a round has a border, some source is settled up to it, or of no source there are further lines
pub told_by : (p : Program) (rows b : ℕ) (above : Option ℕ) (whole before mid now : ℕ → List Next) → IsRoundAt p rows above whole before mid b
    → AtEach (λ i s. Reads (timing_of p i) p.kinds s rows above (whole i) (before i) (mid i) Shut → now i ≡ mid i) p.sources
    → IsSettled p b mid ⊎ AtEach (λ i s. now i ≡ mid i) p.sources
told_by p rows b above whole before mid now was shut =
    some_or_all (λ i s. (u : ℕ) × (settled_time (timing_of p i) s (mid i) ≡ Some u) × (b ≤ u)) (λ i s. now i ≡ mid i) p.sources
    (λ i s at. let h = was.each i s at in by_turn i s at h.0 h.1 h.2)
  where
    by_turn : (i : ℕ) (s : Source) → slice_get p.sources i ≡ Some s → (turn : Turn)
        → Reads (timing_of p i) p.kinds s rows above (whole i) (before i) (mid i) turn → IsWithin b turn
        → ((u : ℕ) × (settled_time (timing_of p i) s (mid i) ≡ Some u) × (b ≤ u)) ⊎ (now i ≡ mid i)
    by_turn i s at (Open u) reads within = inl (u, reads.stops.2, within)
    by_turn i s at Shut reads within = inr (shut i s at reads)
    by_turn i s at (Meets row why) reads within = absurd within
