-- The rows of a file without a defect: their tags are listed, and no more have one time than may.
use Rattle.std.proofs.Common.{◌≡◌, ℕ, ◌+◌, ◌<◌, Bool, true, false, Option, Some, None, List, [], ◌∷◌, ◌++◌, refl, ap, subst, ◌∙◌, arith}
use Rattle.std.specs.Prelude.{⊤, is_none, max, nat_le, unwrap_or}
use Rattle.std.specs.List.{position}
use Rattle.std.proofs.lemmas.Option.{option_and_then_some}
use Rattle.std.specs.List.{AllByRecursion}
use Rattle.std.proofs.lemmas.Bool.Decides.{nat_tests}
use Rattle.std.proofs.lemmas.List.Elements.{filter_map-append}
use Rattle.flu_lemmas.specs.Counting.{times}
use Rattle.flu_lemmas.proofs.Places.{position_below}
use Rattle.flu_model.specs.declared.events.Tag.{Tag}
use Rattle.flu_model.specs.declared.jobs.Kind.{Kind}
use Rattle.flu_model.specs.declared.jobs.Source.{Source}
use Rattle.flu_model.specs.declared.moments.Timing.{Timing}
use Rattle.flu_model.specs.Listing.{tags_of_source}
use Rattle.flu_model.specs.Moments.{IsTiming}
use Rattle.flu_model.specs.Rules.{is_same_tag}
use Rattle.flu_rows.specs.declared.row.Row.{Row}
use Rattle.flu_rows.specs.declared.row.Row.TheVariants.{Event, Beat, End}
use Rattle.flu_rows.specs.declared.rows.Next.{Next}
use Rattle.flu_rows.specs.declared.rows.Next.TheVariants.{Row as RowNext, Bad, TooManyLines, Done}
use Rattle.flu_streams.specs.declared.faults.Why.{Why}
use Rattle.flu_streams.specs.declared.faults.Why.TheVariants.{UnknownTag, Disordered, AfterEnd}
use Rattle.flu_streams.specs.Before.{with_before, first_some}
use Rattle.flu_streams.specs.Good.{at_moments}
use Rattle.flu_streams.specs.Tags.{place_named, tag_named, width}
use Rattle.flu_streams.specs.Tests.{rows_of, time_in, has_ended, times_of, items_of, where_true, test_range, test_tag, test_fields, test_item}
use Rattle.flu_streams.specs.Tests.{test_time, test_times, greatest, margin, same_time, fault_of, defect_of, first_of}
use Rattle.flu_streams.proofs.RoundLaws.{or_else-none, no_option, times_without}
use Rattle.flu_streams.proofs.Taken.{rows_more}
use Rattle.flu_merge.proofs.Spread.{IsListed}

module _ (timing : Timing) (kinds : List Kind) (s : Source) where
  -- each of some rows, after rows of these times, has a tag that the source lists and a time that it may have
  abbrev pub AreSound : List ℕ → List Row → Type 0
  AreSound earlier [] = ⊤
  AreSound earlier (row ∷ rows) =
      (test_tag kinds s row ≡ None) × (test_time timing s.slack earlier row ≡ None) × AreSound (earlier ++ times_of (row ∷ [])) rows

  -- ---- the lines of a file without a defect
  passes : (ended : Bool) (earlier : List ℕ) (held : ℕ) (row : Row) → fault_of timing kinds s ended earlier held row ≡ None
      → (test_tag kinds s row ≡ None) × (test_time timing s.slack earlier row ≡ None)
  passes ended earlier held row none =
      let first = (or_else-none (where_true ended AfterEnd) _ none).1 in
      let tag = or_else-none (test_tag kinds s row) _ (or_else-none (test_range timing row) _ first).1 in
      let item = (or_else-none (test_item row) _ (or_else-none (test_fields kinds row) _ tag.1).1).1 in
      (tag.0, (or_else-none (test_time timing s.slack earlier row) _ item).0)

  of_lines : (held : ℕ) (done lines : List Next) → first_some (λ e. defect_of timing kinds s held e.0 e.1) (with_before done lines) ≡ None
      → AreSound (times_of (rows_of done)) (rows_of lines)
  of_lines held done [] none = tt
  of_lines held done (RowNext line row ∷ lines) none =
      let parts = or_else-none (defect_of timing kinds s held done (RowNext line row)) _ none in
      let here = passes (has_ended (rows_of done)) (times_of (rows_of done)) (held + items_of (width s) (rows_of done)) row
      (no_option (λ (why : Why). (line, why)) _ parts.0) in
      let times_now : times_of (rows_of (done ++ RowNext line row ∷ [])) ≡ times_of (rows_of done) ++ times_of (row ∷ []) =
      ap times_of (rows_more done line row) ∙ filter_map-append time_in (rows_of done) (row ∷ []) in
      (here.0, here.1, subst (λ ts. AreSound ts (rows_of lines)) times_now (of_lines held (done ++ RowNext line row ∷ []) lines parts.1))
  of_lines held done (Bad line ∷ lines) none = absurd cc
  of_lines held done (TooManyLines ∷ lines) none = absurd cc
  of_lines held done (Done n ∷ lines) none =
      subst (λ ts. AreSound ts (rows_of lines)) (times_without done (Done n) (λ row is. absurd cc))
      (of_lines held (done ++ Done n ∷ []) lines (or_else-none (defect_of timing kinds s held done (Done n)) _ none).1)

  -- THE ROWS OF A FILE WITHOUT A DEFECT
  pub good_sound : (held : ℕ) (read : List Next) → first_of timing kinds s held read ≡ None → AreSound [] (rows_of read)
  good_sound held read none = of_lines held [] read none

  -- ---- what such rows have
  is_named : (o : Option ℕ) → where_true (is_none o) UnknownTag ≡ None → (n : ℕ) × (o ≡ Some n)
  is_named None none = absurd cc
  is_named (Some n) none = (n, refl)

  named_below : (name : List ℕ) (key : Option ℕ) (n : ℕ) → place_named kinds s name key ≡ Some n → n < width s
  named_below name key n e =
      option_and_then_some (λ (t : Tag). position (is_same_tag t) (tags_of_source s)) (tag_named kinds name key) n e
      (λ t named there. position_below (is_same_tag t) (tags_of_source s) n there)

  -- its tags are listed
  pub all_listed : (first : ℕ) (earlier : List ℕ) (rows : List Row) → AreSound earlier rows
      → AllByRecursion (IsListed kinds s first) (at_moments timing earlier rows)
  all_listed first earlier [] sound = tt
  all_listed first earlier (Event time name key fields ∷ rows) sound =
      let named = is_named (place_named kinds s name key) sound.0 in
      ((named.0, named.1, named_below name key named.0 named.1), all_listed first (earlier ++ time ∷ []) rows sound.2)
  all_listed first earlier (Beat time ∷ rows) sound = (tt, all_listed first (earlier ++ time ∷ []) rows sound.2)
  all_listed first earlier (End ∷ rows) sound = (tt, all_listed first (earlier ++ []) rows sound.2)

  -- and fewer rows before it have its time than may
  fails_first : (b : Bool) (why : Why) → where_true b why ≡ None → b ≡ false
  fails_first true why e = cc
  fails_first false why e = refl

  pub few_earlier : IsTiming timing → (earlier : List ℕ) (time : ℕ) → test_times timing s.slack earlier (Some time) ≡ None
      → times time earlier < timing.ties
  few_earlier fits [] time none = fits.some
  few_earlier fits (t ∷ ts) time none =
      let last : ℕ = max t (unwrap_or (greatest ts) 0) in
      let second : where_true (nat_le timing.ties (times time (t ∷ ts))) (same_time timing last time) ≡ None =
      (or_else-none (where_true (nat_le (time + margin timing s.slack) last) (Disordered last time)) _ none).1 in
      let fails : nat_le timing.ties (times time (t ∷ ts)) ≡ false =
      fails_first (nat_le timing.ties (times time (t ∷ ts))) (same_time timing last time) second in
      grind (arith, nat_tests)
