-- Where the rows of sources without a defect stand: before the end of times, and so does each tick of a clock among them.
use Rattle.std.proofs.Common.{◌≡◌, ℕ, zero, suc, ◌+◌, ◌*◌, ◌/◌, ◌^◌, ◌<◌, ◌≤◌, inl, inr, Bool, true, false, Option, Some, None, List, [], ◌∷◌, ◌++◌, map}
use Rattle.std.proofs.Common.{length, refl, sym, ap, subst, ◌∙◌, append_assoc, length-append, arith}
use Rattle.std.specs.Prelude.{option_map, slice_get, Contains}
use Rattle.std.specs.List.{AllByRecursion, flat_map}
use Rattle.std.specs.Option.{option_map_or}
use Rattle.std.proofs.lemmas.Bool.{cases_lt}
use Rattle.std.proofs.lemmas.List.{append-nil}
use Rattle.std.proofs.lemmas.List.Elements.{All-from_recursion, recursion_from_All, All-contains, All-contains_itself, All-weaker}
use Rattle.std.proofs.lemmas.Nat.{div-mul-add}
use Rattle.std.proofs.lemmas.Option.{slice_get_within}
use Rattle.flu_lemmas.proofs.Elements.{all_append}
use Rattle.flu_lemmas.proofs.Tests.{true_lt}
use Rattle.flu_model.specs.declared.jobs.Source.{Source}
use Rattle.flu_model.specs.declared.jobs.Program.{Program}
use Rattle.flu_model.specs.declared.moments.Timing.{Timing}
use Rattle.flu_model.specs.Erasure.{job_of}
use Rattle.flu_model.specs.Moments.{limit_of_times, last_multiple, end_of_times, timing_of}
use Rattle.flu_moments.specs.Clocks.{tick_moment, IsTick, ticks_among}
use Rattle.flu_moments.specs.Moments.{moment}
use Rattle.flu_moments.proofs.ComputedLemmas.{ticks_are_computed}
use Rattle.flu_moments.proofs.TickLemmas.{any_within}
use Rattle.flu_outside.specs.Outside.{Contents}
use Rattle.flu_rows.specs.declared.row.Row.{Row}
use Rattle.flu_rows.specs.declared.row.Row.TheVariants.{Event, Beat, End}
use Rattle.flu_rows.specs.Row.{form_of}
use Rattle.flu_streams.specs.declared.faults.SourceFault.{SourceFault}
use Rattle.flu_streams.specs.Before.{with_before, each_with_before, first_some, or_else}
use Rattle.flu_streams.specs.Clocks.{Declared, ranks_of, ticks_of}
use Rattle.flu_streams.specs.Good.{lines_in, rows_in, items_held, fault_of_source, fault_of_rows, ranks_in, ticks_in}
use Rattle.flu_streams.specs.Tests.{first_of, times_of}
use Rattle.flu_streams.proofs.ClockTimes.{end_is_multiple, end_is_behind, end_is_early}
use Rattle.flu_streams.proofs.Ranges.{IsInRange, good_range}
use Rattle.flu_streams.proofs.Spans.{period_some}

pub none_first : {X : Type 0} (a b : Option X) → or_else a b ≡ None → (a ≡ None) × (b ≡ None)
none_first None b e = (refl, e)
none_first (Some x) b e = cc

pub none_mapped : {X Y : Type 0} (f : X → Y) (o : Option X) → option_map f o ≡ None → o ≡ None
none_mapped f None e = refl
none_mapped f (Some x) e = cc

pub slice_here : {X : Type 0} (front later : List X) (x : X) → slice_get (front ++ (x ∷ later)) (length front) ≡ Some x
slice_here [] later x = refl
slice_here (y ∷ front) later x = slice_here front later x

-- what holds of each of the images of some, and of what each gives
all_images : {X Y : Type 0} (P : Y → Type 0) (f : X → Y) (xs : List X) → AllByRecursion (λ x. P (f x)) xs → AllByRecursion P (map f xs)
all_images P f [] all = tt
all_images P f (x ∷ xs) all = (all.0, all_images P f xs all.1)

-- the rows without a defect
rows_early : (timing : Timing) (rows : List Row) → AllByRecursion (IsInRange timing) rows → AllByRecursion (λ t. t < timing.end) (times_of rows)
rows_early timing [] all = tt
rows_early timing (Event time name key fields ∷ rows) all = (true_lt time timing.end all.0, rows_early timing rows all.1)
rows_early timing (Beat time ∷ rows) all = (true_lt time timing.end all.0, rows_early timing rows all.1)
rows_early timing (End ∷ rows) all = rows_early timing rows all.1

module _ (p : Program) where
  abbrev pub IsEarlyRank : ℕ → Type 0
  IsEarlyRank m = m / length p.sources < end_of_times p

  rank_early : (i time : ℕ) → i < length p.sources → time < end_of_times p → IsEarlyRank (moment (length p.sources) 1 time i 0)
  rank_early i time few lt =
      let n = length p.sources in
      let whole : moment n 1 time i 0 ≡ time * n + i = omega arith in
      let own : moment n 1 time i 0 / n ≡ time = ap (λ m. m / n) whole ∙ div-mul-add time n i few in
      subst (λ t. t < end_of_times p) (sym own) lt

  times_ranked : (i : ℕ) (times : List ℕ) → i < length p.sources → AllByRecursion (λ t. t < end_of_times p) times
      → AllByRecursion (λ t. IsEarlyRank (moment (length p.sources) 1 t i 0)) times
  times_ranked i [] few all = tt
  times_ranked i (t ∷ times) few all = (rank_early i t few all.0, times_ranked i times few all.1)

  module _ (left : Contents) where
    abbrev rows : Declared → List Row
    rows e = rows_in (form_of (job_of p)) left e.1

    source_early : (e : Declared) → length e.0 < length p.sources
        → fault_of_source (timing_of p) (form_of (job_of p)) p.kinds left e.0 e.1 ≡ None → AllByRecursion IsEarlyRank (ranks_of p (length e.0) (rows e))
    source_early e few none =
        let timing = timing_of p (length e.0) in
        let held = items_held (form_of (job_of p)) left e.0 in
        let lines = lines_in (form_of (job_of p)) left e.1 in
        let sound = good_range timing p.kinds e.1 held lines (none_mapped _ (first_of timing p.kinds e.1 held lines) none) in
        all_images IsEarlyRank (λ time. moment (length p.sources) 1 time (length e.0) 0) (times_of (rows e))
        (times_ranked (length e.0) (times_of (rows e)) few (rows_early timing (rows e) sound))

    sources_early : (before sources : List Source) → length before + length sources ≤ length p.sources
        → first_some (λ (e : Declared). fault_of_source (timing_of p) (form_of (job_of p)) p.kinds left e.0 e.1) (with_before before sources) ≡ None
        → AllByRecursion IsEarlyRank (flat_map (λ (e : Declared). ranks_of p (length e.0) (rows e)) (with_before before sources))
    sources_early before [] few none = tt
    sources_early before (s ∷ sources) few none =
        let parts = none_first (fault_of_source (timing_of p) (form_of (job_of p)) p.kinds left before s) _ none in
        let past : length (before ++ s ∷ []) ≡ length before + 1 = length-append before (s ∷ []) in
        all_append IsEarlyRank (ranks_of p (length before) (rows (before, s)))
        (flat_map (λ (e : Declared). ranks_of p (length e.0) (rows e)) (with_before (before ++ s ∷ []) sources))
        (source_early (before, s) (omega arith) parts.0) (sources_early (before ++ s ∷ []) sources (omega arith) parts.1)

    -- THE ROWS STAND BEFORE THE END OF TIMES
    pub ranks_early : fault_of_rows p left ≡ None → AllByRecursion IsEarlyRank (ranks_in p left)
    ranks_early none = sources_early [] p.sources (omega arith) none

  -- ---- the ticks of a clock
  module _ (i : ℕ) (s : Source) (every : ℕ) (at : slice_get p.sources i ≡ Some s) (is : s.every ≡ Some every) (ranks : List ℕ)
      (early : AllByRecursion IsEarlyRank ranks) where
    abbrev end : ℕ
    end = last_multiple (limit_of_times p) every

    row_early : (m : ℕ) → Contains ranks m → IsEarlyRank m
    row_early m there = All-contains IsEarlyRank ranks m (All-from_recursion IsEarlyRank ranks early) there

    tick_early : (time : ℕ) → IsTick (length p.sources) 1 every i ranks time → time < limit_of_times p
    tick_early time tick =
        let row = any_within (λ m. m < tick_moment (length p.sources) 1 i time) ranks tick.after_a_row in
        let first = end_is_early p i s every at is row.0 (row_early row.0 row.1) in
        elim (cases_lt end time) [
          | inl far ↦ (let late = any_within (λ m. tick_moment (length p.sources) 1 i end ≤ m) ranks
              (tick.none_after_all end (end_is_multiple p i s every at is row.0 (row_early row.0 row.1)) far) in
              let behind = end_is_behind p i s every at is late.0 (row_early late.0 late.1) in
              let over = late.2 in
              absurd (omega (arith, behind, over)))
          | inr le ↦ omega (arith, first, le)
        ]

    pub ticks_early : AllByRecursion (λ t. t < limit_of_times p) (ticks_among (length p.sources) 1 every i ranks)
    ticks_early =
        let ticks = ticks_among (length p.sources) 1 every i ranks in
        let are = ticks_are_computed (length p.sources) 1 every i ranks (omega arith) (slice_get_within p.sources i s at) (period_some p i s every at is) in
        recursion_from_All (λ t. t < limit_of_times p) ticks
        (All-weaker (Contains ticks) (λ t. t < limit_of_times p) (λ time there. tick_early time ((are.each time).0 there)) ticks (All-contains_itself ticks))

  -- THE TICKS OF A SOURCE among the rows
  pub clock_early : (left : Contents) (before : List Source) (s : Source) → slice_get p.sources (length before) ≡ Some s → fault_of_rows p left ≡ None
      → AllByRecursion (λ t. t < limit_of_times p) (ticks_in p left (before, s))
  clock_early left before s at none = by s.every refl
    where
      by : (o : Option ℕ) → s.every ≡ o
          → AllByRecursion (λ t. t < limit_of_times p) (option_map_or (λ every. ticks_among (length p.sources) 1 every (length before) (ranks_in p left)) o [])
      by None is = tt
      by (Some every) is = ticks_early (length before) s every at is (ranks_in p left) (ranks_early left none)
