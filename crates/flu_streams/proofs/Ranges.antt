-- The rows of a source without a defect have moments below 2^63.
use Rattle.std.proofs.Common.{◌≡◌, ℕ, ◌+◌, ◌/◌, ◌^◌, ◌<◌, ◌≤◌, Bool, true, false, List, [], ◌∷◌, ◌++◌, Option, Some, None, refl}
use Rattle.std.proofs.Common.{arith}
use Rattle.std.specs.Prelude.{not, nat_lt, option_map}
use Rattle.std.specs.List.{AllByRecursion}
use Rattle.std.proofs.Math.Nat.{div-mul-le_self}
use Rattle.flu_lemmas.specs.Counting.{times}
use Rattle.flu_lemmas.proofs.Tests.{true_lt}
use Rattle.flu_model.specs.declared.jobs.Kind.{Kind}
use Rattle.flu_model.specs.declared.jobs.Source.{Source}
use Rattle.flu_model.specs.declared.moments.Timing.{Timing}
use Rattle.flu_model.specs.Moments.{moment_at, IsTiming}
use Rattle.flu_rows.specs.declared.row.Row.{Row}
use Rattle.flu_rows.specs.declared.row.Row.TheVariants.{Event, Beat, End}
use Rattle.flu_rows.specs.declared.rows.Next.{Next}
use Rattle.flu_rows.specs.declared.rows.Next.TheVariants.{Row as RowNext, Bad, TooManyLines, Done}
use Rattle.flu_streams.specs.declared.faults.Why.{Why}
use Rattle.flu_streams.specs.declared.faults.Why.TheVariants.{BadRow, AfterEnd}
use Rattle.flu_streams.specs.Before.{with_before, or_else, first_some}
use Rattle.flu_streams.specs.Good.{at_moments, time_at}
use Rattle.flu_streams.specs.Rounds.{row_fault, line_defect, defect_in}
use Rattle.flu_streams.specs.Tags.{width}
use Rattle.flu_streams.specs.Tests.{rows_of, has_ended, times_of, time_in, items_of, where_true, has_moments, test_range, fault_of, defect_of, first_of}
use Rattle.flu_streams.proofs.Moments.{product_le}

-- the moments of a row's time are below 2^63
abbrev pub IsInRange : Timing → Row → Type 0
IsInRange timing row = has_moments timing (time_in row) ≡ true

abbrev pub IsLow : Row → Type 0
IsLow row = time_at row < 2 ^ 63

module _ (timing : Timing) (fits : IsTiming timing) where
  pub moment_low : (time before : ℕ) → nat_lt time timing.end ≡ true → moment_at timing time before < 2 ^ 63
  moment_low time before lt =
      let early : time < timing.end = true_lt time timing.end lt in
      let range = fits.range in
      let below : time + 1 ≤ 2 ^ 63 / timing.scale = omega (arith, early, range) in
      let some = fits.some in
      let within = fits.within in
      let more = product_le (time + 1) (2 ^ 63 / timing.scale) timing.scale below in
      let all = div-mul-le_self (2 ^ 63) timing.scale in
      omega arith

  pub moments_low : (earlier : List ℕ) (rows : List Row) → AllByRecursion (IsInRange timing) rows → AllByRecursion IsLow (at_moments timing earlier rows)
  moments_low earlier [] all = tt
  moments_low earlier (Event time name key fields ∷ rows) all =
      (moment_low time (times time earlier) all.0, moments_low (earlier ++ time ∷ []) rows all.1)
  moments_low earlier (Beat time ∷ rows) all = (moment_low time (times time earlier) all.0, moments_low (earlier ++ time ∷ []) rows all.1)
  moments_low earlier (End ∷ rows) all = (omega arith, moments_low (earlier ++ []) rows all.1)

-- ---- the tests of rows
none_first : {X : Type 0} (a b : Option X) → or_else a b ≡ None → (a ≡ None) × (b ≡ None)
none_first None b e = (refl, e)
none_first (Some x) b e = cc

none_mapped : {X Y : Type 0} (f : X → Y) (o : Option X) → option_map f o ≡ None → o ≡ None
none_mapped f None e = refl
none_mapped f (Some x) e = cc

passes_range : (timing : Timing) (row : Row) → test_range timing row ≡ None → IsInRange timing row
passes_range timing row none = by_test (has_moments timing (time_in row)) refl none
  where
    by_test : (b : Bool) → has_moments timing (time_in row) ≡ b → where_true (not b) BadRow ≡ None → IsInRange timing row
    by_test true e none = e
    by_test false e none = cc

module _ (timing : Timing) (kinds : List Kind) (s : Source) where
  in_range : (ended : Bool) (earlier : List ℕ) (held : ℕ) (row : Row) → fault_of timing kinds s ended earlier held row ≡ None → IsInRange timing row
  in_range ended earlier held row none =
      let later = (none_first (where_true ended AfterEnd) _ none).1 in
      passes_range timing row (none_first (test_range timing row) _ later).0

  in_range_of_round : (ended : Bool) (earlier : List ℕ) (row : Row) → row_fault timing kinds s ended earlier row ≡ None → IsInRange timing row
  in_range_of_round ended earlier row none =
      let later = (none_first (where_true ended AfterEnd) _ none).1 in
      passes_range timing row (none_first (test_range timing row) _ later).0

  -- the rows of lines without a defect, after others
  of_lines : (held : ℕ) (done lines : List Next) → first_some (λ e. defect_of timing kinds s held e.0 e.1) (with_before done lines) ≡ None
      → AllByRecursion (IsInRange timing) (rows_of lines)
  of_lines held done [] none = tt
  of_lines held done (RowNext line row ∷ lines) none =
      let parts = none_first (defect_of timing kinds s held done (RowNext line row)) _ none in (
        in_range (has_ended (rows_of done)) (times_of (rows_of done)) (held + items_of (width s) (rows_of done)) row
            (none_mapped (λ (why : Why). (line, why)) _ parts.0),
        of_lines held (done ++ RowNext line row ∷ []) lines parts.1,
      )
  of_lines held done (Bad line ∷ lines) none = of_lines held (done ++ Bad line ∷ []) lines (none_first (defect_of timing kinds s held done (Bad line)) _ none).1
  of_lines held done (TooManyLines ∷ lines) none =
      of_lines held (done ++ TooManyLines ∷ []) lines (none_first (defect_of timing kinds s held done TooManyLines) _ none).1
  of_lines held done (Done n ∷ lines) none = of_lines held (done ++ Done n ∷ []) lines (none_first (defect_of timing kinds s held done (Done n)) _ none).1

  of_round_lines : (done lines : List Next) → first_some (λ e. line_defect timing kinds s e.0 e.1) (with_before done lines) ≡ None
      → AllByRecursion (IsInRange timing) (rows_of lines)
  of_round_lines done [] none = tt
  of_round_lines done (RowNext line row ∷ lines) none =
      let parts = none_first (line_defect timing kinds s done (RowNext line row)) _ none in (
        in_range_of_round (has_ended (rows_of done)) (times_of (rows_of done)) row (none_mapped (λ (why : Why). (line, why)) _ parts.0),
        of_round_lines (done ++ RowNext line row ∷ []) lines parts.1,
      )
  of_round_lines done (Bad line ∷ lines) none =
      of_round_lines (done ++ Bad line ∷ []) lines (none_first (line_defect timing kinds s done (Bad line)) _ none).1
  of_round_lines done (TooManyLines ∷ lines) none =
      of_round_lines (done ++ TooManyLines ∷ []) lines (none_first (line_defect timing kinds s done TooManyLines) _ none).1
  of_round_lines done (Done n ∷ lines) none = of_round_lines (done ++ Done n ∷ []) lines (none_first (line_defect timing kinds s done (Done n)) _ none).1

  -- THE ROWS OF A FILE WITHOUT A DEFECT, and of lines without one, have moments in range
  pub good_range : (held : ℕ) (read : List Next) → first_of timing kinds s held read ≡ None → AllByRecursion (IsInRange timing) (rows_of read)
  good_range held read none = of_lines held [] read none

  pub sound_range : (lines : List Next) → defect_in timing kinds s lines ≡ None → AllByRecursion (IsInRange timing) (rows_of lines)
  sound_range lines none = of_round_lines [] lines none
