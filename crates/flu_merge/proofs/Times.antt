-- The events of the files at their moments, each at its time, are those of the rows as they are read. So the merged list is the stable merge of the files.
use Rattle.std.proofs.Common.{◌≡◌, ℕ, ◌+◌, ◌*◌, ◌≤◌, ◌<◌, Bool, true, false, cond, not, ◌&&◌, List, [], ◌∷◌, ◌++◌, map, length}
use Rattle.std.proofs.Common.{refl, sym, ap, subst, ◌∙◌, arith, length-append}
use Rattle.std.specs.Prelude.{pos, unwrap_or, sum_by, if◌then◌else◌, IsPermutation}
use Rattle.std.specs.List.{filter, flat_map, AllByRecursion}
use Rattle.std.specs.Ordering.{nat_cmp, is_lt}
use Rattle.std.proofs.Math.Nat.{mul-div_cancel}
use Rattle.std.proofs.lemmas.List.{map-append}
use Rattle.std.proofs.lemmas.List.Sorted.{IsPermutation-map}
use Rattle.flu_lemmas.specs.Counting.{times}
use Rattle.flu_lemmas.proofs.Sorting.{IsRising, sorted_from_rising}
use Rattle.flu_model.specs.declared.events.Event.{Event as EventOf}
use Rattle.flu_model.specs.declared.jobs.Program.{Program}
use Rattle.flu_model.specs.declared.jobs.Source.{Source}
use Rattle.flu_model.specs.Erasure.{job_of}
use Rattle.flu_model.specs.Merging.{events_of, merged}
use Rattle.flu_model.specs.Moments.{moments_a_time, at_its_time, timing_of}
use Rattle.flu_model.specs.Rules.{is_clock}
use Rattle.flu_outside.specs.Outside.{Contents}
use Rattle.flu_rows.specs.declared.row.Row.{Row}
use Rattle.flu_rows.specs.declared.row.Row.TheVariants.{Event, Beat, End}
use Rattle.flu_rows.specs.Row.{form_of}
use Rattle.flu_streams.specs.Before.{with_before, each_with_before}
use Rattle.flu_streams.specs.Good.{rows_in, ticks_in, event_of, at_moments, lists_of}
use Rattle.flu_streams.specs.Holding.{item_of}
use Rattle.flu_streams.specs.Tags.{place_named, given_to, width}
use Rattle.flu_streams.proofs.Moments.{moments_some}
use Rattle.flu_merge.specs.Merge.{events_of_rows, events_of_ticks, events_of_source, events_of_files, at_their_times, GoodFilesAreMerged}
use Rattle.flu_merge.proofs.Clocks.{tick_event}
use Rattle.flu_merge.proofs.Files.{events_in, merged_by_moments}
use Rattle.flu_merge.proofs.Moments.{time_of_row}

-- ---- mapped lists
module _ {X Y : Type 0} (f : X → Y) where
  all_mapped : (P : Y → Type 0) (xs : List X) → AllByRecursion (λ x. P (f x)) xs → AllByRecursion P (map f xs)
  all_mapped P [] all = tt
  all_mapped P (x ∷ xs) all = (all.0, all_mapped P xs all.1)

  rising_mapped : (lt : Y → Y → Bool) (xs : List X) → IsRising (λ x y. lt (f x) (f y)) xs → IsRising lt (map f xs)
  rising_mapped lt [] up = tt
  rising_mapped lt (x ∷ xs) up = (all_mapped (λ y. lt y (f x) ≡ false) xs up.0, rising_mapped lt xs up.1)

  filter_mapped : (q : Y → Bool) (xs : List X) → filter q (map f xs) ≡ map f (filter (λ x. q (f x)) xs)
  filter_mapped q [] = refl
  filter_mapped q (x ∷ xs) =
      elim (q (f x)) as (λ b. cond b (f x ∷ filter q (map f xs)) (filter q (map f xs))
      ≡ map f (cond b (x ∷ filter (λ y. q (f y)) xs) (filter (λ y. q (f y)) xs))) [
        | true ↦ ap (λ l. f x ∷ l) (filter_mapped q xs)
        | false ↦ filter_mapped q xs
      ]

-- an event at a time
abbrev is_at : ℕ → EventOf → Bool
is_at t x = not (is_lt (nat_cmp t x.time)) && not (is_lt (nat_cmp x.time t))

module _ (p : Program) where
  -- ---- the rows at their moments and as they are read
  rows_at_times : (s : Source) (i first : ℕ) → i < length p.sources → (earlier : List ℕ) (rows : List Row)
      → map (at_its_time p) (events_of (map (item_of p.kinds s first) (at_moments (timing_of p i) earlier rows))) ≡ events_of_rows p.kinds s first rows
  rows_at_times s i first inside earlier [] = refl
  rows_at_times s i first inside earlier (Event time name key fields ∷ rows) =
      let at = time_of_row p i time (times time earlier) inside in
      let rest = rows_at_times s i first inside (earlier ++ time ∷ []) rows in
      λ k. event_of (at k) (first + unwrap_or (place_named p.kinds s name key) (width s)) (given_to p.kinds name fields) ∷ rest k
  rows_at_times s i first inside earlier (Beat time ∷ rows) = rows_at_times s i first inside (earlier ++ time ∷ []) rows
  rows_at_times s i first inside earlier (End ∷ rows) = rows_at_times s i first inside (earlier ++ []) rows

  -- ---- ticks at their moments and at their times
  ticks_at_times : (i first : ℕ) → i < length p.sources → (ticks : List ℕ)
      → map (at_its_time p) (map (tick_event (timing_of p i) first) ticks) ≡ events_of_ticks first ticks
  ticks_at_times i first inside [] = refl
  ticks_at_times i first inside (t ∷ ticks) =
      let at = time_of_row p i t 0 inside in
      let rest = ticks_at_times i first inside ticks in
      λ k. record { time = at k; itag = record { 0 = first }; item = 0; value = pos 0 } ∷ rest k

  module _ (left : Contents) where
    source_at_times : (before : List Source) (s : Source) → length before < length p.sources
        → map (at_its_time p) (events_in p left (before, s)) ≡ events_of_source p left (before, s)
    source_at_times before s inside =
        elim (is_clock s) as (λ c. map (at_its_time p)
        (if c then map (tick_event (timing_of p (length before)) (sum_by width before)) (ticks_in p left (before, s))
        else events_of (map (item_of p.kinds s (sum_by width before)) (at_moments (timing_of p (length before)) [] (rows_in (form_of (job_of p)) left s))))
        ≡ (if c then events_of_ticks (sum_by width before) (ticks_in p left (before, s))
        else events_of_rows p.kinds s (sum_by width before) (rows_in (form_of (job_of p)) left s))) [
          | true ↦ ticks_at_times (length before) (sum_by width before) inside (ticks_in p left (before, s))
          | false ↦ rows_at_times s (length before) (sum_by width before) inside [] (rows_in (form_of (job_of p)) left s)
        ]

    files_at_times : (before sources : List Source) → length before + length sources ≤ length p.sources
        → map (at_its_time p) (flat_map (events_in p left) (with_before before sources)) ≡ flat_map (events_of_source p left) (with_before before sources)
    files_at_times before [] few = refl
    files_at_times before (s ∷ sources) few =
        let more = with_before (before ++ s ∷ []) sources in
        let one = length-append before (s ∷ []) in
        let here = source_at_times before s (omega (arith, few)) in
        let rest = files_at_times (before ++ s ∷ []) sources (omega (arith, few, one)) in
        map-append (at_its_time p) (events_in p left (before, s)) (flat_map (events_in p left) more) ∙ (λ k. here k ++ rest k)

-- THE MERGED LIST of good sources is the stable merge of their files
pub good_merged : GoodFilesAreMerged
good_merged p left good =
    let given : List EventOf = flat_map (events_in p left) (each_with_before p.sources) in
    let listed : List EventOf = merged (lists_of p left) in
    let by_moments = merged_by_moments p left good in
    let read : map (at_its_time p) given ≡ events_of_files p left = files_at_times p left [] p.sources (omega arith) in
    record {
      all = subst (λ l. IsPermutation l (at_their_times p listed)) read (IsPermutation-map (at_its_time p) given listed by_moments.all);
      by_time = sorted_from_rising (λ (x y : EventOf). is_lt (nat_cmp x.time y.time)) (at_their_times p listed)
          (rising_mapped (at_its_time p) (λ (x y : EventOf). is_lt (nat_cmp x.time y.time)) listed by_moments.by_time);
      stable = λ w. (let at : EventOf = record { time = w.time * moments_a_time p; itag = w.itag; item = w.item; value = w.value } in
          let same : filter (λ x. is_at w.time (at_its_time p x)) listed ≡ filter (λ x. is_at w.time (at_its_time p x)) given =
          subst (λ t. filter (λ x. is_at t (at_its_time p x)) listed ≡ filter (λ x. is_at t (at_its_time p x)) given)
          (mul-div_cancel w.time (moments_some p)) (by_moments.stable at) in
          filter_mapped (at_its_time p) (is_at w.time) listed ∙ ap (map (at_its_time p)) same ∙ sym (filter_mapped (at_its_time p) (is_at w.time) given)
          ∙ ap (filter (is_at w.time)) read);
    }
