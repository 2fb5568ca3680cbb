-- Rows at their moments, which are all different, rise once they are in order of time. The end of a source has no time, so it may stand anywhere.
use Rattle.std.proofs.Common.{◌≡◌, ◌<◌, ◌≤◌, ◌+◌, ◌/◌, ℕ, Bool, true, false, List, [], ◌∷◌, ◌++◌, Option, Some, None}
use Rattle.std.proofs.Common.{refl, sym, ap, subst, ◌∙◌, inl, inr, append_assoc, arith}
use Rattle.std.specs.Prelude.{◌==◌, ◌||◌, nat_lt, nat_le, option_map, ⊤}
use Rattle.std.specs.List.{list_any}
use Rattle.std.proofs.lemmas.Bool.{cases_Bool, or_parts}
use Rattle.std.proofs.lemmas.Bool.Decides.{nat_tests}
use Rattle.std.proofs.lemmas.List.{append-nil}
use Rattle.std.proofs.lemmas.List.Elements.{filter_map-append}
use Rattle.std.proofs.lemmas.List.Sorted.{list_any-IsPermutation}
use Rattle.flu_lemmas.specs.Counting.{times}
use Rattle.flu_lemmas.specs.Late.{is_less, put_late}
use Rattle.flu_lemmas.proofs.Counting.{times_append, times_of_same}
use Rattle.flu_lemmas.proofs.Late.{in_order-late, put_late-zero}
use Rattle.flu_lemmas.proofs.Sorting.{in_order-permutation}
use Rattle.flu_model.specs.declared.jobs.Kind.{Kind}
use Rattle.flu_model.specs.declared.jobs.Source.{Source}
use Rattle.flu_model.specs.declared.moments.Timing.{Timing}
use Rattle.flu_model.specs.Moments.{moment_at, IsTiming}
use Rattle.flu_rows.specs.declared.row.Row.{Row}
use Rattle.flu_rows.specs.declared.row.Row.TheVariants.{Event, Beat, End}
use Rattle.flu_rows.specs.declared.rows.Next.{Next}
use Rattle.flu_rows.specs.declared.rows.Next.TheVariants.{Row as RowNext, Bad, TooManyLines, Done}
use Rattle.flu_streams.specs.declared.faults.Why.{Why}
use Rattle.flu_streams.specs.declared.faults.Why.TheVariants.{AfterEnd}
use Rattle.flu_streams.specs.Before.{with_before, or_else, first_some}
use Rattle.flu_streams.specs.Good.{time_at, at_moments, in_time_order}
use Rattle.flu_streams.specs.LoopMoments.{at_moment}
use Rattle.flu_streams.specs.Tags.{width}
use Rattle.flu_streams.specs.Tests.{rows_of, row_in, has_ended, times_of, items_of}
use Rattle.flu_streams.specs.Tests.{where_true, test_range, test_tag, test_fields, test_item, test_time, test_times, fault_of, defect_of, first_of}
use Rattle.flu_streams.proofs.Moments.{time_of-moment, at_moments-append}

-- ---- rows that rise
-- the times of events and heartbeats rise from `low` on
abbrev pub Rise : ℕ → List Row → Type 0
Rise low [] = ⊤
Rise low (Event time name key fields ∷ rows) = (low ≤ time) × Rise (time + 1) rows
Rise low (Beat time ∷ rows) = (low ≤ time) × Rise (time + 1) rows
Rise low (End ∷ rows) = Rise low rows

-- a row has this time
abbrev has_time : ℕ → Row → Bool
has_time t (Event time name key fields) = time == t
has_time t (Beat time) = time == t
has_time t End = false

pub rise_lower : (low lower : ℕ) (rows : List Row) → lower ≤ low → Rise low rows → Rise lower rows
rise_lower low lower [] le up = tt
rise_lower low lower (Event time name key fields ∷ rows) le up = let first = up.0 in (omega arith, up.1)
rise_lower low lower (Beat time ∷ rows) le up = let first = up.0 in (omega arith, up.1)
rise_lower low lower (End ∷ rows) le up = rise_lower low lower rows le up

different : (a b : ℕ) → (a == b) ≡ false → a ≡ b → ⊥
different a b other same = absurd (grind (arith, nat_tests))

-- if none has the time from which they rise, they rise from the next one
rise_next : (low : ℕ) (rows : List Row) → list_any (has_time low) rows ≡ false → Rise low rows → Rise (low + 1) rows
rise_next low [] none up = tt
rise_next low (Event time name key fields ∷ rows) none up =
    let first = up.0 in
    let other = different time low (or_parts (time == low) (list_any (has_time low) rows) none).0 in
    (omega arith, up.1)
rise_next low (Beat time ∷ rows) none up =
    let first = up.0 in
    let other = different time low (or_parts (time == low) (list_any (has_time low) rows) none).0 in
    (omega arith, up.1)
rise_next low (End ∷ rows) none up = rise_next low rows none up

-- a row of this time before others
record IsAt (t : ℕ) (row : Row) : Type 0 where
  at : time_at row ≡ t
  front : (low : ℕ) (rows : List Row) → low ≤ t → Rise (t + 1) rows → Rise low (row ∷ rows)

-- a row of a new time is put among them
rise_late : (t : ℕ) (row : Row) → IsAt t row → (low : ℕ) (rows : List Row) → low ≤ t → list_any (has_time t) rows ≡ false → Rise low rows
    → Rise low (put_late time_at row rows)
rise_late t row is low [] le new up = is.front low [] le tt
rise_late t row is low (Event time name key fields ∷ rows) le new up =
    let first = up.0 in
    let at = is.at in
    let parts = or_parts (time == t) (list_any (has_time t) rows) new in
    let other = different time t parts.0 in
    elim (cases_Bool (nat_lt time (time_at row))) [
      | inl less ↦
          let lt : time + 1 ≤ t = grind (arith, nat_tests) in
          rw less (first, rise_late t row is (time + 1) rows lt parts.1 up.1)
      | inr more ↦
          let ge : t + 1 ≤ time = grind (arith, nat_tests) in
          rw more (is.front low (Event time name key fields ∷ rows) le (ge, up.1))
    ]
rise_late t row is low (Beat time ∷ rows) le new up =
    let first = up.0 in
    let at = is.at in
    let parts = or_parts (time == t) (list_any (has_time t) rows) new in
    let other = different time t parts.0 in
    elim (cases_Bool (nat_lt time (time_at row))) [
      | inl less ↦
          let lt : time + 1 ≤ t = grind (arith, nat_tests) in
          rw less (first, rise_late t row is (time + 1) rows lt parts.1 up.1)
      | inr more ↦
          let ge : t + 1 ≤ time = grind (arith, nat_tests) in
          rw more (is.front low (Beat time ∷ rows) le (ge, up.1))
    ]
rise_late t row is low (End ∷ rows) le new up =
    let at = is.at in
    elim (cases_Bool (nat_lt 0 (time_at row))) [
      | inl less ↦ rw less (rise_late t row is low rows le new up)
      | inr more ↦
          let none : t ≡ 0 = grind (arith, nat_tests) in
          let lowest : low ≡ t = omega arith in
          let later : Rise (t + 1) rows = rise_next t rows new (subst (λ n. Rise n rows) lowest up) in
          rw more (is.front low (End ∷ rows) le later)
    ]

-- ---- the moments of good rows
fails_first : (b : Bool) (why : Why) → where_true b why ≡ None → b ≡ false
fails_first true why e = cc
fails_first false why e = refl

pub no_first : {X : Type 0} (a b : Option X) → or_else a b ≡ None → (a ≡ None) × (b ≡ None)
no_first None b e = (refl, e)
no_first (Some x) b e = cc

not_equal : (a b : ℕ) → (a ≡ b → ⊥) → (a == b) ≡ false
not_equal a b ne = by_test (a == b) refl
  where
    by_test : (c : Bool) → (a == b) ≡ c → (a == b) ≡ false
    by_test true e = absurd (ne (grind (arith, nat_tests)))
    by_test false e = e

-- a moment of a time, by how many rows come before it at this time, which are fewer than may have it
module _ (timing : Timing) (fits : IsTiming timing) (t b : ℕ) (less : b < timing.ties) where
  earlier_place : (before : ℕ) → before < b → moment_at timing t before ≡ moment_at timing t b → ⊥
  earlier_place before fewer same = absurd (omega arith)

  not_same : (time before : ℕ) → (time ≡ t → before < b) → moment_at timing time before ≡ moment_at timing t b → ⊥
  not_same time before fewer same =
      let alike : time ≡ t = sym (time_of-moment timing fits time before) ∙ ap (λ m. m / timing.scale) same ∙ time_of-moment timing fits t b in
      earlier_place before (fewer alike) (ap (λ u. moment_at timing u before) (sym alike) ∙ same)

  one_before : (earlier : List ℕ) (time : ℕ) (rows : List ℕ) → times t earlier + times t (time ∷ rows) ≤ b → time ≡ t → times time earlier < b
  one_before earlier time rows le same =
      let own : times t (time ∷ rows) ≡ 1 + times t rows = times_of_same t time rows same in
      subst (λ u. times u earlier < b) (sym same) (omega (arith, own, le))

  one_later : (earlier : List ℕ) (time : ℕ) (rows : List ℕ) → times t earlier + times t (time ∷ rows) ≤ b
      → times t (earlier ++ time ∷ []) + times t rows ≤ b
  one_later earlier time rows le =
      let behind : times t (earlier ++ time ∷ []) ≡ times t earlier + times t (time ∷ []) = times_append t earlier (time ∷ []) in
      let both : times t (time ∷ rows) ≡ times t (time ∷ []) + times t rows = times_append t (time ∷ []) rows in
      omega (arith, behind, both, le)

  -- no earlier row has it
  none_earlier : (earlier : List ℕ) (rows : List Row) → times t earlier + times t (times_of rows) ≤ b
      → list_any (has_time (moment_at timing t b)) (at_moments timing earlier rows) ≡ false
  none_earlier earlier [] le = refl
  none_earlier earlier (Event time name key fields ∷ rows) le =
      rw (not_equal _ _ (not_same time (times time earlier) (one_before earlier time (times_of rows) le)))
      (none_earlier (earlier ++ time ∷ []) rows (one_later earlier time (times_of rows) le))
  none_earlier earlier (Beat time ∷ rows) le =
      rw (not_equal _ _ (not_same time (times time earlier) (one_before earlier time (times_of rows) le)))
      (none_earlier (earlier ++ time ∷ []) rows (one_later earlier time (times_of rows) le))
  none_earlier earlier (End ∷ rows) le =
      none_earlier (earlier ++ []) rows (subst (λ l. times t l + times t (times_of rows) ≤ b) (sym (append-nil earlier)) le)

module _ (timing : Timing) (fits : IsTiming timing) where
  few_earlier : (slack : ℕ) (earlier : List ℕ) (time : ℕ) → test_times timing slack earlier (Some time) ≡ None → times time earlier < timing.ties
  few_earlier slack [] time none = fits.some
  few_earlier slack (t ∷ ts) time none =
      let fails : nat_le timing.ties (times time (t ∷ ts)) ≡ false = fails_first _ _ (no_first _ _ none).1 in
      grind (arith, nat_tests)

  -- no row in order has the moment of one that passes the test
  new_time : (slack time : ℕ) (rows : List Row) → test_times timing slack (times_of rows) (Some time) ≡ None
      → list_any (has_time (moment_at timing time (times time (times_of rows)))) (in_time_order (at_moments timing [] rows)) ≡ false
  new_time slack time rows none =
      sym (list_any-IsPermutation (has_time (moment_at timing time (times time (times_of rows)))) (at_moments timing [] rows)
      (in_time_order (at_moments timing [] rows)) (in_order-permutation (is_less time_at) (at_moments timing [] rows)))
      ∙ none_earlier timing fits time (times time (times_of rows)) (few_earlier slack (times_of rows) time none) [] rows (omega arith)

  one_more : (slack : ℕ) (rows : List Row) (row : Row) → test_time timing slack (times_of rows) row ≡ None → Rise 0 (in_time_order (at_moments timing [] rows))
      → Rise 0 (put_late time_at (at_moment timing (times_of rows) row) (in_time_order (at_moments timing [] rows)))
  one_more slack rows (Event time name key fields) none up =
      let m = moment_at timing time (times time (times_of rows)) in
      rise_late m (Event m name key fields) (record { at = refl; front = λ low others le later. (le, later) }) 0 (in_time_order (at_moments timing [] rows))
      (omega arith) (new_time slack time rows none) up
  one_more slack rows (Beat time) none up =
      let m = moment_at timing time (times time (times_of rows)) in
      rise_late m (Beat m) (record { at = refl; front = λ low others le later. (le, later) }) 0 (in_time_order (at_moments timing [] rows)) (omega arith)
      (new_time slack time rows none) up
  one_more slack rows End none up = subst (λ l. Rise 0 l) (sym (put_late-zero time_at End (in_time_order (at_moments timing [] rows)) refl)) up

-- ---- the lines of a source without a defect
pub no_mapped : {X Y : Type 0} (f : X → Y) (o : Option X) → option_map f o ≡ None → o ≡ None
no_mapped f None e = refl
no_mapped f (Some x) e = cc

in_time : (timing : Timing) (kinds : List Kind) (s : Source) (ended : Bool) (earlier : List ℕ) (held : ℕ) (row : Row)
    → fault_of timing kinds s ended earlier held row ≡ None → test_time timing s.slack earlier row ≡ None
in_time timing kinds s ended earlier held row none =
    let first = no_first (where_true ended AfterEnd) _ none in
    let range = no_first (test_range timing row) _ first.1 in
    let second = no_first (test_tag kinds s row) _ range.1 in
    let third = no_first (test_fields kinds row) _ second.1 in
    let fourth = no_first (test_item row) _ third.1 in
    (no_first (test_time timing s.slack earlier row) _ fourth.1).0

module _ (timing : Timing) (fits : IsTiming timing) where
  -- some lines have rows that rise at their moments
  abbrev RiseIn : List Next → Type 0
  RiseIn lines = Rise 0 (in_time_order (at_moments timing [] (rows_of lines)))

  same_rows : (done : List Next) (next : Next) → row_in next ≡ None → rows_of (done ++ next ∷ []) ≡ rows_of done
  same_rows done (RowNext line row) e = cc
  same_rows done (Bad line) e = filter_map-append row_in done (Bad line ∷ []) ∙ append-nil (rows_of done)
  same_rows done TooManyLines e = filter_map-append row_in done (TooManyLines ∷ []) ∙ append-nil (rows_of done)
  same_rows done (Done lines) e = filter_map-append row_in done (Done lines ∷ []) ∙ append-nil (rows_of done)

  no_row : (done : List Next) (next : Next) → row_in next ≡ None → RiseIn done → RiseIn (done ++ next ∷ [])
  no_row done next e up = subst (λ l. Rise 0 (in_time_order (at_moments timing [] l))) (sym (same_rows done next e)) up

  step : (kinds : List Kind) (s : Source) (held : ℕ) (done : List Next) (next : Next) → defect_of timing kinds s held done next ≡ None
      → RiseIn done → RiseIn (done ++ next ∷ [])
  step kinds s held done (RowNext line row) none up =
      let rows = rows_of done in
      let passes = in_time timing kinds s (has_ended rows) (times_of rows) (held + items_of (width s) rows) row (no_mapped (λ why. (line, why)) _ none) in
      subst (λ l. Rise 0 l) (sym (ap (λ l. in_time_order (at_moments timing [] l)) (filter_map-append row_in done (RowNext line row ∷ []))
      ∙ ap in_time_order (at_moments-append timing fits [] rows (row ∷ []))
      ∙ in_order-late time_at (at_moments timing [] rows) (at_moment timing (times_of rows) row))) (one_more timing fits s.slack rows row passes up)
  step kinds s held done (Bad line) none up = no_row done (Bad line) refl up
  step kinds s held done TooManyLines none up = no_row done TooManyLines refl up
  step kinds s held done (Done lines) none up = no_row done (Done lines) refl up

  walk : (kinds : List Kind) (s : Source) (held : ℕ) (done rest : List Next)
      → first_some (λ e. defect_of timing kinds s held e.0 e.1) (with_before done rest) ≡ None → RiseIn done → RiseIn (done ++ rest)
  walk kinds s held done [] none up = subst (λ l. RiseIn l) (sym (append-nil done)) up
  walk kinds s held done (next ∷ rest) none up =
      let parts = no_first (defect_of timing kinds s held done next) _ none in
      subst (λ l. RiseIn l) (append_assoc done (next ∷ []) rest)
      (walk kinds s held (done ++ next ∷ []) rest parts.1 (step kinds s held done next parts.0 up))

  pub good_rows_rise : (kinds : List Kind) (s : Source) (held : ℕ) (read : List Next) → first_of timing kinds s held read ≡ None
      → Rise 0 (in_time_order (at_moments timing [] (rows_of read)))
  good_rows_rise kinds s held read none = walk kinds s held [] read none tt
