-- The ticks of clocks have times below 2^63, where no row has a defect: rows are before the end of times.
use Rattle.std.proofs.Common.{◌≡◌, ℕ, zero, suc, ◌+◌, ◌*◌, ◌/◌, ◌^◌, ◌<◌, ◌≤◌, inl, inr, Bool, true, false, Option, Some, None, List, [], ◌∷◌, ◌++◌, map}
use Rattle.std.proofs.Common.{length, refl, sym, ap, subst, ◌∙◌, arith}
use Rattle.std.specs.Prelude.{not, slice_get, Contains}
use Rattle.std.specs.List.{AllByRecursion, flat_map}
use Rattle.std.specs.Option.{option_map_or}
use Rattle.std.proofs.Math.Nat.{div-le_self}
use Rattle.std.proofs.lemmas.Bool.{cases_lt}
use Rattle.std.proofs.lemmas.List.Elements.{All-from_recursion, recursion_from_All, All-contains, All-contains_itself, All-weaker}
use Rattle.std.proofs.lemmas.Nat.{div-mul-add}
use Rattle.std.proofs.lemmas.Option.{slice_get_within}
use Rattle.flu_lemmas.proofs.Elements.{all_append, all_filter, all_map}
use Rattle.flu_lemmas.proofs.Tests.{true_lt}
use Rattle.flu_model.specs.declared.jobs.Kind.{Kind}
use Rattle.flu_model.specs.declared.jobs.Source.{Source}
use Rattle.flu_model.specs.declared.jobs.Program.{Program}
use Rattle.flu_model.specs.declared.moments.Timing.{Timing}
use Rattle.flu_model.specs.Moments.{moments_a_time, limit_of_times, last_multiple, end_of_times, timing_of}
use Rattle.flu_moments.specs.Clocks.{tick_moment, IsTick, ticks_among}
use Rattle.flu_moments.specs.Moments.{moment}
use Rattle.flu_moments.proofs.ComputedLemmas.{ticks_are_computed}
use Rattle.flu_moments.proofs.TickLemmas.{any_within}
use Rattle.flu_rows.specs.declared.row.Row.{Row}
use Rattle.flu_rows.specs.declared.row.Row.TheVariants.{Event as EventRow, Beat as BeatRow, End as EndRow}
use Rattle.flu_rows.specs.declared.rows.Next.{Next}
use Rattle.flu_rows.specs.declared.rows.Next.TheVariants.{Row as RowNext, Bad, TooManyLines, Done}
use Rattle.flu_streams.specs.declared.border.Border.{Border}
use Rattle.flu_streams.specs.declared.faults.Why.{Why}
use Rattle.flu_streams.specs.declared.faults.Why.TheVariants.{BadRow, AfterEnd}
use Rattle.flu_streams.specs.Before.{with_before, each_with_before, first_some}
use Rattle.flu_streams.specs.Clocks.{Declared, ranks_of, ticks_of}
use Rattle.flu_streams.specs.Rounds.{row_fault, line_defect, defect_in, is_within, ranks, ticks_between}
use Rattle.flu_streams.specs.Tests.{rows_of, has_ended, times_of, time_in, where_true, has_moments, test_range}
use Rattle.flu_streams.proofs.ClockTimes.{limit_within, end_is_multiple, end_is_behind, end_is_early}
use Rattle.flu_streams.proofs.RoundLaws.{or_else-none, no_option, each_source}
use Rattle.flu_streams.proofs.Spans.{period_some}
use Rattle.flu_rounds.specs.Written.{AreSound}

-- ---- lists
-- what holds of each image
pub all_images : {X Y : Type 0} (P : Y → Type 0) (f : X → Y) (xs : List X) → AllByRecursion (λ x. P (f x)) xs → AllByRecursion P (map f xs)
all_images P f [] all = tt
all_images P f (x ∷ xs) all = (all.0, all_images P f xs all.1)

-- what holds of what each element gives
pub all_flat : {X Y : Type 0} (P : Y → Type 0) (f : X → List Y) (xs : List X) → AllByRecursion (λ x. AllByRecursion P (f x)) xs
    → AllByRecursion P (flat_map f xs)
all_flat P f [] all = tt
all_flat P f (x ∷ xs) all = all_append P (f x) (flat_map f xs) all.0 (all_flat P f xs all.1)

-- and what holds of the element at a place
pub all_at : {X : Type 0} (P : X → Type 0) (xs : List X) (k : ℕ) (x : X) → AllByRecursion P xs → slice_get xs k ≡ Some x → P x
all_at P [] k x all e = absurd cc
all_at P (y ∷ ys) zero x all e = let same : y ≡ x = cc in subst P same all.0
all_at P (y ∷ ys) (suc k) x all e = all_at P ys k x all.1 e

-- ---- rows without a defect
module _ (timing : Timing) (kinds : List Kind) (s : Source) where
  abbrev AreEarly : List Row → Type 0
  AreEarly rows = AllByRecursion (λ t. t < timing.end) (times_of rows)

  row_passes : (ended : Bool) (earlier : List ℕ) (row : Row) → row_fault timing kinds s ended earlier row ≡ None → has_moments timing (time_in row) ≡ true
  row_passes ended earlier row none =
      let later = (or_else-none (where_true ended AfterEnd) _ none).1 in
      passes (has_moments timing (time_in row)) (or_else-none (test_range timing row) _ later).0
    where
      passes : (b : Bool) → where_true (not b) BadRow ≡ None → b ≡ true
      passes true e = refl
      passes false e = absurd cc

  row_early : (row : Row) (rows : List Row) → has_moments timing (time_in row) ≡ true → AreEarly rows → AreEarly (row ∷ rows)
  row_early (EventRow time name key fields) rows lt rest = (true_lt time timing.end lt, rest)
  row_early (BeatRow time) rows lt rest = (true_lt time timing.end lt, rest)
  row_early EndRow rows lt rest = rest

  lines_early : (done lines : List Next) → first_some (λ e. line_defect timing kinds s e.0 e.1) (with_before done lines) ≡ None → AreEarly (rows_of lines)
  lines_early done [] none = tt
  lines_early done (RowNext line row ∷ lines) none =
      let parts = or_else-none (line_defect timing kinds s done (RowNext line row)) _ none in
      row_early row (rows_of lines)
      (row_passes (has_ended (rows_of done)) (times_of (rows_of done)) row (no_option (λ (why : Why). (line, why)) _ parts.0))
      (lines_early (done ++ RowNext line row ∷ []) lines parts.1)
  lines_early done (Bad line ∷ lines) none =
      lines_early (done ++ Bad line ∷ []) lines (or_else-none (line_defect timing kinds s done (Bad line)) _ none).1
  lines_early done (TooManyLines ∷ lines) none =
      lines_early (done ++ TooManyLines ∷ []) lines (or_else-none (line_defect timing kinds s done TooManyLines) _ none).1
  lines_early done (Done n ∷ lines) none = lines_early (done ++ Done n ∷ []) lines (or_else-none (line_defect timing kinds s done (Done n)) _ none).1

  sound_early : (lines : List Next) → defect_in timing kinds s lines ≡ None → AreEarly (rows_of lines)
  sound_early lines none = lines_early [] lines none

module _ (p : Program) where
  abbrev IsLow : ℕ → Type 0
  IsLow m = m / length p.sources < end_of_times p

  -- where rows stand, by their times
  rank_low : (i time : ℕ) → i < length p.sources → time < end_of_times p → IsLow (moment (length p.sources) 1 time i 0)
  rank_low i time few lt =
      let n = length p.sources in
      let whole : moment n 1 time i 0 ≡ time * n + i = omega arith in
      let own : moment n 1 time i 0 / n ≡ time = ap (λ m. m / n) whole ∙ div-mul-add time n i few in
      subst (λ t. t < end_of_times p) (sym own) lt

  ranks_low : (reads : ℕ → List Next) → AreSound p reads → AllByRecursion IsLow (ranks p reads)
  ranks_low reads sound =
      all_flat IsLow (λ (e : Declared). ranks_of p (length e.0) (rows_of (reads (length e.0)))) (each_with_before p.sources)
      (each_source (λ i s. AllByRecursion IsLow (ranks_of p i (rows_of (reads i)))) p.sources
      (λ i s at.
      all_images IsLow (λ time. moment (length p.sources) 1 time i 0) (times_of (rows_of (reads i)))
      (all_map (λ t. t < end_of_times p) (λ t. IsLow (moment (length p.sources) 1 t i 0)) (times_of (rows_of (reads i)))
      (λ t lt. rank_low i t (slice_get_within p.sources i s at) lt)
      (sound_early (timing_of p i) p.kinds s (reads i) (sound i s at)))))

  -- ---- the ticks of a clock
  module _ (i : ℕ) (s : Source) (every : ℕ) (at : slice_get p.sources i ≡ Some s) (is : s.every ≡ Some every) (rows : List ℕ)
      (low : AllByRecursion IsLow rows) where
    abbrev end : ℕ
    end = last_multiple (limit_of_times p) every

    row_low : (m : ℕ) → Contains rows m → IsLow m
    row_low m there = All-contains IsLow rows m (All-from_recursion IsLow rows low) there

    tick_low : (time : ℕ) → IsTick (length p.sources) 1 every i rows time → time < limit_of_times p
    tick_low time tick =
        let row = any_within (λ m. m < tick_moment (length p.sources) 1 i time) rows tick.after_a_row in
        let early = end_is_early p i s every at is row.0 (row_low row.0 row.1) in
        elim (cases_lt end time) [
          | inl far ↦ (let late = any_within (λ m. tick_moment (length p.sources) 1 i end ≤ m) rows
              (tick.none_after_all end (end_is_multiple p i s every at is row.0 (row_low row.0 row.1)) far) in
              let behind = end_is_behind p i s every at is late.0 (row_low late.0 late.1) in
              let over = late.2 in
              absurd (omega (arith, behind, over)))
          | inr le ↦ omega (arith, early, le)
        ]

    ticks_early : AllByRecursion (λ t. t < limit_of_times p) (ticks_among (length p.sources) 1 every i rows)
    ticks_early =
        let ticks = ticks_among (length p.sources) 1 every i rows in
        let are = ticks_are_computed (length p.sources) 1 every i rows (omega arith) (slice_get_within p.sources i s at) (period_some p i s every at is) in
        recursion_from_All (λ t. t < limit_of_times p) ticks
        (All-weaker (Contains ticks) (λ t. t < limit_of_times p) (λ time there. tick_low time ((are.each time).0 there)) ticks (All-contains_itself ticks))

  limit_low : limit_of_times p ≤ 2 ^ 63
  limit_low =
      let few = limit_within p in
      let less = div-le_self (2 ^ 63) (moments_a_time p) in
      omega (arith, few, less)

  module _ (reads : ℕ → List Next) (sound : AreSound p reads) (before : List Source) (s : Source)
      (at : slice_get p.sources (length before) ≡ Some s) where
    ticks_low : AllByRecursion (λ t. t < 2 ^ 63) (ticks_of p (ranks p reads) (before, s))
    ticks_low = by s.every refl
      where
        by : (o : Option ℕ) → s.every ≡ o
            → AllByRecursion (λ t. t < 2 ^ 63) (option_map_or (λ every. ticks_among (length p.sources) 1 every (length before) (ranks p reads)) o [])
        by None is = tt
        by (Some every) is =
            let most = limit_low in
            all_map (λ t. t < limit_of_times p) (λ t. t < 2 ^ 63) (ticks_among (length p.sources) 1 every (length before) (ranks p reads))
            (λ t lt. omega (arith, most, lt)) (ticks_early (length before) s every at is (ranks p reads) (ranks_low reads sound))

    -- THE TICKS BETWEEN TWO BORDERS are below 2^63
    pub between_low : (above : Option ℕ) (end : Border) → AllByRecursion (λ t. t < 2 ^ 63) (ticks_between p above end reads (before, s))
    between_low above end =
        all_filter (λ t. t < 2 ^ 63) (is_within above end) (ticks_of p (ranks p reads) (before, s))
        (all_map (λ t. t < 2 ^ 63) (λ t. is_within above end t ≡ true → t < 2 ^ 63) (ticks_of p (ranks p reads) (before, s)) (λ t lt e. lt) ticks_low)
