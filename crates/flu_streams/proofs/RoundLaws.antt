-- What rounds take: the rows up to a border come all before the later ones, and none of them is read later.
use Rattle.std.proofs.Common.{◌≡◌, inl, inr, ◌⊎◌, ◌<◌, ◌≤◌, ◌+◌, ◌-◌, ℕ, suc, max, Bool, true, false, cond, List, [], ◌∷◌, ◌++◌, map, length, Option, Some}
use Rattle.std.proofs.Common.{None, ◌/◌, refl, sym, ap, ◌∙◌, append_assoc, length-append, arith, subst}
use Rattle.std.specs.Prelude.{not, nat_lt, nat_le, ◌==◌, ◌&&◌, option_map, unwrap_or, slice_get, sum_by, pos, take, if◌then◌else◌}
use Rattle.std.specs.List.{filter, filter_map, flat_map, list_all, cons_option, range_with_len, AllByRecursion}
use Rattle.std.specs.Option.{option_to_list, option_map_or}
use Rattle.std.proofs.lemmas.Bool.{cases_lt}
use Rattle.std.proofs.lemmas.Bool.Decides.{nat_tests}
use Rattle.std.proofs.lemmas.List.{append-nil}
use Rattle.std.proofs.lemmas.List.Elements.{filter-append, filter_map-append}
use Rattle.std.proofs.lemmas.Grind.{flat_map-append}
use Rattle.std.proofs.lemmas.Option.{slice_get_within}
use Rattle.flu_lemmas.specs.Elements.{AtEach}
use Rattle.flu_lemmas.specs.Late.{is_less}
use Rattle.flu_lemmas.proofs.Booleans.{and_false}
use Rattle.flu_lemmas.proofs.Elements.{all_map, passes_at}
use Rattle.flu_lemmas.proofs.Tests.{and_left, and_right, both, true_lt}
use Rattle.flu_model.specs.declared.events.Event.{Event}
use Rattle.flu_model.specs.declared.events.Item.{Item}
use Rattle.flu_model.specs.declared.events.Item.TheVariants.{Event as EventItem, Beat as BeatItem, End as EndItem}
use Rattle.flu_model.specs.declared.jobs.Kind.{Kind}
use Rattle.flu_model.specs.declared.jobs.Source.{Source}
use Rattle.flu_model.specs.declared.jobs.Program.{Program}
use Rattle.flu_model.specs.declared.moments.Timing.{Timing}
use Rattle.flu_lemmas.specs.Sorting.{in_order}
use Rattle.flu_model.specs.Folding.{state_after, outputs_of}
use Rattle.flu_model.specs.Merging.{events_of, all_events, is_before}
use Rattle.flu_model.specs.Moments.{time_of_moment, timing_of, moment_at, last_moment, IsTiming}
use Rattle.flu_model.specs.Reports.{report}
use Rattle.flu_model.specs.Rules.{is_clock}
use Rattle.flu_rows.specs.declared.row.Row.{Row}
use Rattle.flu_rows.specs.declared.row.Row.TheVariants.{Event as EventRow, Beat as BeatRow, End as EndRow}
use Rattle.flu_rows.specs.declared.rows.Next.{Next}
use Rattle.flu_rows.specs.declared.rows.Next.TheVariants.{Row as RowNext, Bad, TooManyLines, Done}
use Rattle.flu_streams.specs.declared.border.Border.{Border}
use Rattle.flu_streams.specs.declared.border.Border.TheVariants.{At, Closed}
use Rattle.flu_streams.specs.declared.faults.Why.{Why}
use Rattle.flu_streams.specs.Before.{with_before, each_with_before, first_some, or_else}
use Rattle.flu_streams.specs.Borders.{AreCutAt}
use Rattle.flu_streams.specs.Clocks.{Declared, ticks_of, items_of_ticks}
use Rattle.flu_streams.specs.Good.{event_of, time_at, item_in, at_moments, in_time_order, items_at, lists_of_source}
use Rattle.flu_streams.specs.LoopMoments.{border_moment, end_moment}
use Rattle.flu_streams.specs.Rounds.{row_fault, line_defect, defect_in, settled, settled_time, is_above, is_up_to, is_between, rows_between, is_enough, Turn}
use Rattle.flu_streams.specs.Rounds.{Open, Shut, Meets, StopsAt, Reads, IsWithin, ranks, is_within, ticks_between, IsFull, BySource, ByTick, IsRoundAt, IsRound}
use Rattle.flu_streams.specs.Rounds.{lists_between, ComesFrom, Starts, GoesOn, LawOfNoRows}
use Rattle.flu_streams.specs.Tags.{place_named, given_to, width}
use Rattle.flu_streams.specs.Tests.{row_in, rows_of, time_in, times_of, greatest, where_true, margin, test_behind, test_times, test_time, test_range}
use Rattle.flu_streams.specs.Tests.{test_tag, test_fields, test_item}
use Rattle.flu_streams.proofs.Befores.{with_before-append, first_some-append}
use Rattle.flu_streams.proofs.Cutting.{in_order-cut, all_early, all_late, all_kept, kept_all, kept_none, later_is}
use Rattle.flu_streams.proofs.Moments.{border_test, above_test, time_of-moment, is_above-moment, is_up_to-moment, between_moments, timing_fits}
use Rattle.flu_streams.proofs.Taken.{filter_more, times_more, greatest-push, rows_more}

-- ---- lines without a defect
pub or_else-none : {X : Type 0} (a b : Option X) → or_else a b ≡ None → (a ≡ None) × (b ≡ None)
or_else-none None b e = (refl, e)
or_else-none (Some x) b e = absurd cc

pub defect_in-append : (timing : Timing) (kinds : List Kind) (s : Source) (read more : List Next)
    → defect_in timing kinds s (read ++ more) ≡ or_else (defect_in timing kinds s read)
    (first_some (λ (e : List Next × Next). line_defect timing kinds s e.0 e.1) (with_before read more))
defect_in-append timing kinds s read more =
    let f = λ (e : List Next × Next). line_defect timing kinds s e.0 e.1 in
    ap (first_some f) (with_before-append [] read more) ∙ first_some-append f (with_before [] read) (with_before read more)

pub sound_front : (timing : Timing) (kinds : List Kind) (s : Source) (read more : List Next) → defect_in timing kinds s (read ++ more) ≡ None
    → defect_in timing kinds s read ≡ None
sound_front timing kinds s read more e = (or_else-none (defect_in timing kinds s read) _ (sym (defect_in-append timing kinds s read more) ∙ e)).0

pub or_none : {X : Type 0} (a : Option X) → or_else a None ≡ a
or_none None = refl
or_none (Some x) = refl

-- one line more
pub defect_in-more : (timing : Timing) (kinds : List Kind) (s : Source) (read : List Next) (next : Next) → defect_in timing kinds s read ≡ None
    → defect_in timing kinds s (read ++ next ∷ []) ≡ line_defect timing kinds s read next
defect_in-more timing kinds s read next e =
    defect_in-append timing kinds s read (next ∷ []) ∙ ap (λ o. or_else o (or_else (line_defect timing kinds s read next) None)) e
    ∙ or_none (line_defect timing kinds s read next)

-- ---- a row that passes is later than what was settled
pub no_option : {X Y : Type 0} (f : X → Y) (o : Option X) → option_map f o ≡ None → o ≡ None
no_option f None e = refl
no_option f (Some x) e = absurd cc

pub passes_time : (timing : Timing) (kinds : List Kind) (s : Source) (ended : Bool) (earlier : List ℕ) (row : Row)
    → row_fault timing kinds s ended earlier row ≡ None
    → test_time timing s.slack earlier row ≡ None
passes_time timing kinds s ended earlier row e =
    let one = (or_else-none (where_true ended _) _ e).1 in
    let two = (or_else-none (test_range timing row) _ one).1 in
    let three = (or_else-none (test_tag kinds s row) _ two).1 in
    let four = (or_else-none (test_fields kinds row) _ three).1 in
    let five = (or_else-none (test_item row) _ four).1 in
    (or_else-none (test_time timing s.slack earlier row) None five).0

pub not_late : (timing : Timing) (slack : ℕ) (earlier : List ℕ) (time last : ℕ) → test_behind timing slack earlier (Some last) time ≡ None
    → last < time + margin timing slack
not_late timing slack earlier time last e =
    by_test (margin timing slack) _ (nat_le (time + margin timing slack) last) refl
    (or_else-none (where_true (nat_le (time + margin timing slack) last) _) _ e).0
  where
    by_test : (behind : ℕ) (why : Why) (c : Bool) → nat_le (time + behind) last ≡ c → where_true c why ≡ None → last < time + behind
    by_test behind why true le e = absurd cc
    by_test behind why false gt e = grind (arith, nat_tests)

-- the settled time of a greatest time
pub settled_is : (slack last u : ℕ) → settled slack (Some last) ≡ Some u → (slack ≤ last) × (u ≡ last - slack)
settled_is slack last u e = by_test (nat_le slack last) refl e
  where
    by_test : (b : Bool) → nat_le slack last ≡ b → (if b then Some (last - slack) else None) ≡ Some u → (slack ≤ last) × (u ≡ last - slack)
    by_test true le e = (grind (arith, nat_tests), cc)
    by_test false gt e = absurd cc

pub settled_some : (slack last : ℕ) → slack ≤ last → settled slack (Some last) ≡ Some (last - slack)
settled_some slack last le = let e : nat_le slack last ≡ true = grind (arith, nat_tests) in rw e refl

-- a time that passes is later than what was settled, and what is settled behind it is not earlier
pub time_settles : (timing : Timing) (slack u time : ℕ) (earlier : List ℕ) → settled (margin timing slack) (greatest earlier) ≡ Some u
    → test_times timing slack earlier (Some time) ≡ None
    → (u < time) × ((v : ℕ) × (settled (margin timing slack) (greatest (earlier ++ time ∷ [])) ≡ Some v) × (u ≤ v))
time_settles timing slack u time earlier was passes = by_top (greatest earlier) refl was passes
  where
    by_top : (top : Option ℕ) → greatest earlier ≡ top → settled (margin timing slack) top ≡ Some u → test_behind timing slack earlier top time ≡ None
        → (u < time) × ((v : ℕ) × (settled (margin timing slack) (greatest (earlier ++ time ∷ [])) ≡ Some v) × (u ≤ v))
    by_top None top was passes = absurd cc
    by_top (Some last) top was passes =
        let is = settled_is (margin timing slack) last u was in
        let late = not_late timing slack earlier time last passes in
        let more : greatest (earlier ++ time ∷ []) ≡ Some (max last time) = greatest-push earlier time ∙ ap (λ o. Some (max (unwrap_or o 0) time)) top in (
          omega (arith, late, is.0, is.1),
          (
            max last time - margin timing slack,
            rw more (settled_some (margin timing slack) (max last time) (omega (arith, is.0))),
            omega (arith, is.0, is.1),
          ),
        )

pub times_with : (read : List Next) (line : ℕ) (row : Row) (time : ℕ) → time_in row ≡ Some time
    → times_of (rows_of (read ++ RowNext line row ∷ [])) ≡ times_of (rows_of read) ++ time ∷ []
times_with read line row time at = ap times_of (rows_more read line row) ∙ times_more (rows_of read) row
    ∙ ap (λ o. times_of (rows_of read) ++ option_to_list o) at

pub times_without : (read : List Next) (next : Next) → ((row : Row) → row_in next ≡ Some row → time_in row ≡ None)
    → times_of (rows_of (read ++ next ∷ [])) ≡ times_of (rows_of read)
times_without read next none = ap times_of (filter_more row_in read next) ∙ by_row (row_in next) refl
  where
    by_row : (o : Option Row) → row_in next ≡ o → times_of (rows_of read ++ option_to_list o) ≡ times_of (rows_of read)
    by_row None e = ap times_of (append-nil (rows_of read))
    by_row (Some row) e = times_more (rows_of read) row ∙ ap (λ o. times_of (rows_of read) ++ option_to_list o) (none row e)
        ∙ append-nil (times_of (rows_of read))

-- a line that passes: its row is later than what was settled, and what is settled behind it is not earlier
abbrev Settles : Timing → Source → List Next → Next → ℕ → Type 0
Settles timing s read next u = ((row : Row) (time : ℕ) → row_in next ≡ Some row → time_in row ≡ Some time → u < time)
    × ((v : ℕ) × (settled_time timing s (read ++ next ∷ []) ≡ Some v) × (u ≤ v))

settles_still : (timing : Timing) (s : Source) (read : List Next) (next : Next) (u : ℕ) → settled_time timing s read ≡ Some u
    → ((row : Row) → row_in next ≡ Some row → time_in row ≡ None) → Settles timing s read next u
settles_still timing s read next u was none = (
  λ row time is at. absurd (some_none time (sym at ∙ none row is)),
  (u, ap (λ ts. settled (margin timing s.slack) (greatest ts)) (times_without read next none) ∙ was, omega arith),
)
  where
    some_none : (time : ℕ) → Some time ≡ None → ⊥
    some_none time e = cc

settles_row : (timing : Timing) (s : Source) (read : List Next) (line : ℕ) (row : Row) (time u : ℕ) → settled_time timing s read ≡ Some u
    → time_in row ≡ Some time
    → test_times timing s.slack (times_of (rows_of read)) (Some time) ≡ None
    → Settles timing s read (RowNext line row) u
settles_row timing s read line row time u was at passes =
    let h = time_settles timing s.slack u time (times_of (rows_of read)) was passes in (
      λ r t is here. let same : row ≡ r = cc in let when : Some time ≡ Some t = sym at ∙ ap time_in same ∙ here in
          let eq : time ≡ t = cc in omega (arith, eq, h.0),
      (h.1.0, ap (λ ts. settled (margin timing s.slack) (greatest ts)) (times_with read line row time at) ∙ h.1.1, h.1.2),
    )

pub line_settles : (timing : Timing) (kinds : List Kind) (s : Source) (read : List Next) (next : Next) (u : ℕ) → settled_time timing s read ≡ Some u
    → line_defect timing kinds s read next ≡ None → Settles timing s read next u
line_settles timing kinds s read (RowNext line (EventRow time name key fields)) u was e =
    settles_row timing s read line (EventRow time name key fields) time u was refl
    (passes_time timing kinds s _ _ (EventRow time name key fields) (no_option (λ (why : Why). (line, why)) _ e))
line_settles timing kinds s read (RowNext line (BeatRow time)) u was e =
    settles_row timing s read line (BeatRow time) time u was refl (passes_time timing kinds s _ _ (BeatRow time) (no_option (λ (why : Why). (line, why)) _ e))
line_settles timing kinds s read (RowNext line EndRow) u was e =
    settles_still timing s read (RowNext line EndRow) u was (λ row is. let same : EndRow ≡ row = cc in ap time_in (sym same))
line_settles timing kinds s read (Bad line) u was e = absurd cc
line_settles timing kinds s read TooManyLines u was e = absurd cc
line_settles timing kinds s read (Done lines) u was e = settles_still timing s read (Done lines) u was (λ row is. absurd cc)

-- ---- none of the rows up to a border is read later
later_none : (above : Option ℕ) (t time : ℕ) → t < time → (is_above above time && nat_le time t) ≡ false
later_none above t time lt = let e : nat_le time t ≡ false = grind (arith, nat_tests) in rw e (and_false (is_above above time))

one_none : (above : Option ℕ) (t : ℕ) (next : Next) → ((row : Row) (time : ℕ) → row_in next ≡ Some row → time_in row ≡ Some time → t < time)
    → rows_between above (At t) (rows_of (next ∷ [])) ≡ []
one_none above t (RowNext line (EventRow time name key fields)) later = rw (later_none above t time (later (EventRow time name key fields) time refl refl)) refl
one_none above t (RowNext line (BeatRow time)) later = rw (later_none above t time (later (BeatRow time) time refl refl)) refl
one_none above t (RowNext line EndRow) later = refl
one_none above t (Bad line) later = refl
one_none above t TooManyLines later = refl
one_none above t (Done lines) later = refl

pub nothing_later : (timing : Timing) (kinds : List Kind) (s : Source) (above : Option ℕ) (t : ℕ) (read more : List Next) (u : ℕ)
    → defect_in timing kinds s (read ++ more) ≡ None
    → settled_time timing s read ≡ Some u → t ≤ u
    → rows_between above (At t) (rows_of (read ++ more)) ≡ rows_between above (At t) (rows_of read)
nothing_later timing kinds s above t read [] u sound was le = ap (λ l. rows_between above (At t) (rows_of l)) (append-nil read)
nothing_later timing kinds s above t read (next ∷ more) u sound was le =
    let regroup : read ++ (next ∷ more) ≡ (read ++ next ∷ []) ++ more = sym (append_assoc read (next ∷ []) more) in
    let sound' : defect_in timing kinds s ((read ++ next ∷ []) ++ more) ≡ None = ap (defect_in timing kinds s) (sym regroup) ∙ sound in
    let front = sound_front timing kinds s (read ++ next ∷ []) more sound' in
    let here : line_defect timing kinds s read next ≡ None =
    sym (defect_in-more timing kinds s read next (sound_front timing kinds s read (next ∷ []) front)) ∙ front in
    let h = line_settles timing kinds s read next u was here in
    ap (λ l. rows_between above (At t) (rows_of l)) regroup
    ∙ nothing_later timing kinds s above t (read ++ next ∷ []) more h.1.0 sound' h.1.1 (omega (arith, le, h.1.2))
    ∙ ap (rows_between above (At t)) (filter_map-append row_in read (next ∷ []))
    ∙ filter-append (is_between above (At t)) (rows_of read) (rows_of (next ∷ []))
    ∙ ap (λ l. rows_between above (At t) (rows_of read) ++ l) (one_none above t next (λ row time is at. let k = h.0 row time is at in omega (arith, k, le)))
    ∙ append-nil (rows_between above (At t) (rows_of read))

-- ---- what one round leaves to the next
nothing_more : {X : Type 0} (xs more rest : List X) → xs ≡ (xs ++ more) ++ rest → more ≡ []
nothing_more xs [] rest e = refl
nothing_more xs (x ∷ more) rest e =
    let len : length xs ≡ length ((xs ++ (x ∷ more)) ++ rest) = ap length e in
    absurd (omega (arith, len, length-append (xs ++ (x ∷ more)) rest, length-append xs (x ∷ more)))

pub front_of_whole : (timing : Timing) (kinds : List Kind) (s : Source) (rows : ℕ) (above : Option ℕ) (whole now : List Next) (turn : Turn)
    → StopsAt timing kinds s rows above whole now turn → (rest : List Next) × (whole ≡ now ++ rest)
front_of_whole timing kinds s rows above whole now (Open u) h = h.0
front_of_whole timing kinds s rows above whole now Shut h = ([], h.0 ∙ sym (append-nil now))
front_of_whole timing kinds s rows above whole now (Meets row why) h = (h.0.0 ∷ h.0.1, h.0.2)

-- of a source that is closed the next round reads no further lines
pub shut_keeps : (timing : Timing) (kinds : List Kind) (s : Source) (rows b : ℕ) (above : Option ℕ) (whole before mid now : List Next) (next : Turn)
    → Reads timing kinds s rows above whole before mid Shut → Reads timing kinds s rows (Some b) whole mid now next → now ≡ mid
shut_keeps timing kinds s rows b above whole before mid now next was reads =
    let front = front_of_whole timing kinds s rows (Some b) whole now next reads.stops in
    let none = nothing_more mid reads.more front.0 (sym was.stops.0 ∙ front.1 ∙ ap (λ l. l ++ front.0) reads.further) in
    reads.further ∙ ap (λ l. mid ++ l) none ∙ append-nil mid

-- the rows up to the border of one round are those that are read up to it in the next
pub round_keeps : (timing : Timing) (kinds : List Kind) (s : Source) (rows b : ℕ) (start above : Option ℕ) (whole before mid now : List Next) (turn next : Turn)
    → Reads timing kinds s rows above whole before mid turn → IsWithin b turn
    → Reads timing kinds s rows (Some b) whole mid now next → rows_between start (At b) (rows_of now) ≡ rows_between start (At b) (rows_of mid)
round_keeps timing kinds s rows b start above whole before mid now (Open u) next was within reads =
    ap (λ l. rows_between start (At b) (rows_of l)) reads.further
    ∙ nothing_later timing kinds s start b mid reads.more u (ap (defect_in timing kinds s) (sym reads.further) ∙ reads.sound) was.stops.2 within
round_keeps timing kinds s rows b start above whole before mid now Shut next was within reads =
    ap (λ l. rows_between start (At b) (rows_of l)) (shut_keeps timing kinds s rows b above whole before mid now next was reads)
round_keeps timing kinds s rows b start above whole before mid now (Meets row why) next was within reads = absurd within

-- ---- each source, behind those before it
each_before : (P : ℕ → Source → Type 0) (pre xs : List Source) → ((j : ℕ) (x : Source) → slice_get xs j ≡ Some x → P (length pre + j) x)
    → AllByRecursion (λ (e : List Source × Source). P (length e.0) e.1) (with_before pre xs)
each_before P pre [] h = tt
each_before P pre (x ∷ xs) h = (
  subst (λ n. P n x) (omega arith) (h 0 x refl),
  each_before P (pre ++ x ∷ []) xs (λ j y e. subst (λ n. P n y) (omega (arith, length-append pre (x ∷ []))) (h (suc j) y e)),
)

pub each_source : (P : ℕ → Source → Type 0) (xs : List Source) → AtEach P xs
    → AllByRecursion (λ (e : List Source × Source). P (length e.0) e.1) (each_with_before xs)
each_source P xs h = each_before P [] xs (λ j x e. subst (λ n. P n x) (omega arith) (h j x e))

pub flat_same : {X Y : Type 0} (f g : X → List Y) (xs : List X) → AllByRecursion (λ x. f x ≡ g x) xs → flat_map f xs ≡ flat_map g xs
flat_same f g [] all = refl
flat_same f g (x ∷ xs) all = λ i. all.0 i ++ flat_same f g xs all.1 i

-- ---- the events of a round's rows
events_of-append : (xs ys : List Item) → events_of (xs ++ ys) ≡ events_of xs ++ events_of ys
events_of-append [] ys = refl
events_of-append (EventItem x ∷ xs) ys = ap (λ l. x ∷ l) (events_of-append xs ys)
events_of-append (BeatItem t ∷ xs) ys = events_of-append xs ys
events_of-append (EndItem ∷ xs) ys = events_of-append xs ys

events_timed : (g : ℕ → Bool) (kinds : List Kind) (s : Source) (first place : ℕ) (rows : List Row) → list_all (λ (row : Row). g (time_at row)) rows ≡ true
    → list_all (λ (x : Event). g x.time) (events_of (filter_map (item_in kinds s first place) rows)) ≡ true
events_timed g kinds s first place [] all = refl
events_timed g kinds s first place (EventRow time name key fields ∷ rows) all =
    let rest = events_timed g kinds s first place rows (and_right (g time) _ all) in
    elim (unwrap_or (option_map (λ n. n == place) (place_named kinds s name key)) false)
    as (λ b. list_all (λ (x : Event). g x.time) (events_of (cons_option
    (if b then Some (EventItem (event_of time (first + place) (given_to kinds name fields))) else None)
    (filter_map (item_in kinds s first place) rows))) ≡ true) [
      | true ↦ both (g time) _ (and_left (g time) _ all) rest
      | false ↦ rest
    ]
events_timed g kinds s first place (BeatRow time ∷ rows) all = events_timed g kinds s first place rows (and_right (g time) _ all)
events_timed g kinds s first place (EndRow ∷ rows) all = events_timed g kinds s first place rows (and_right (g 0) _ all)

pub filter_twice : {X : Type 0} (p q : X → Bool) (xs : List X) → filter p (filter q xs) ≡ filter (λ x. q x && p x) xs
filter_twice p q [] = refl
filter_twice p q (x ∷ xs) =
    elim (q x) as (λ b. filter p (cond b (x ∷ filter q xs) (filter q xs)) ≡ cond (b && p x) (x ∷ filter (λ y. q y && p y) xs) (filter (λ y. q y && p y) xs)) [
      | true ↦ ap (λ l. cond (p x) (x ∷ l) l) (filter_twice p q xs)
      | false ↦ filter_twice p q xs
    ]

pub filter_alike : {X : Type 0} (p q : X → Bool) → ((x : X) → p x ≡ q x) → (xs : List X) → filter p xs ≡ filter q xs
filter_alike p q same xs = λ i. filter (λ x. same x i) xs

-- the times up to b are among those up to the end
abbrev pub Covers : ℕ → Border → Type 0
Covers b end = (t : ℕ) → nat_le t b ≡ true → is_up_to end t ≡ true

-- what is above b is above the border before
abbrev pub Exceeds : ℕ → Option ℕ → Type 0
Exceeds b above = (t : ℕ) → nat_lt b t ≡ true → is_above above t ≡ true

early_timed : (a : Bool) (b : ℕ) (end : Border) (time : ℕ) → Covers b end → ((a && is_up_to end time) && nat_le time b) ≡ (a && nat_le time b)
early_timed false b end time covers = refl
early_timed true b end time covers = by_test (nat_le time b) refl
  where
    by_test : (c : Bool) → nat_le time b ≡ c → (is_up_to end time && nat_le time b) ≡ nat_le time b
    by_test true e = rw (e, covers time e) refl
    by_test false e = rw e (and_false (is_up_to end time))

early_row : (above : Option ℕ) (b : ℕ) (end : Border) → Covers b end → (row : Row)
    → (is_between above end row && nat_le (time_at row) b) ≡ is_between above (At b) row
early_row above b end covers (EventRow time name key fields) = early_timed (is_above above time) b end time covers
early_row above b end covers (BeatRow time) = early_timed (is_above above time) b end time covers
early_row above b end covers EndRow = refl

late_timed : (a c e : Bool) → (c ≡ true → a ≡ true) → ((a && e) && c) ≡ (c && e)
late_timed true true true h = refl
late_timed true true false h = refl
late_timed true false true h = refl
late_timed true false false h = refl
late_timed false true e h = let no : false ≡ true = h refl in absurd cc
late_timed false false e h = refl

late_row : (above : Option ℕ) (b : ℕ) (end : Border) → Exceeds b above → (row : Row)
    → (is_between above end row && not (nat_le (time_at row) b)) ≡ is_between (Some b) end row
late_row above b end exceeds (EventRow time name key fields) =
    let e : not (nat_le time b) ≡ nat_lt b time = grind (arith, nat_tests) in
    rw e (late_timed (is_above above time) (nat_lt b time) (is_up_to end time) (exceeds time))
late_row above b end exceeds (BeatRow time) =
    let e : not (nat_le time b) ≡ nat_lt b time = grind (arith, nat_tests) in
    rw e (late_timed (is_above above time) (nat_lt b time) (is_up_to end time) (exceeds time))
late_row above b end exceeds EndRow = refl

-- among the rows of a round those up to a border, and the later ones
pub early_between : (above : Option ℕ) (b : ℕ) (end : Border) (rows : List Row) → Covers b end
    → filter (λ (row : Row). nat_le (time_at row) b) (rows_between above end rows) ≡ rows_between above (At b) rows
early_between above b end rows covers = filter_twice (λ (row : Row). nat_le (time_at row) b) (is_between above end) rows
    ∙ filter_alike _ _ (early_row above b end covers) rows

pub late_between : (above : Option ℕ) (b : ℕ) (end : Border) (rows : List Row) → Exceeds b above
    → filter (λ (row : Row). not (nat_le (time_at row) b)) (rows_between above end rows) ≡ rows_between (Some b) end rows
late_between above b end rows exceeds = filter_twice (λ (row : Row). not (nat_le (time_at row) b)) (is_between above end) rows
    ∙ filter_alike _ _ (late_row above b end exceeds) rows

row_first : (b : ℕ) (x y : Row) → nat_le (time_at x) b ≡ true → nat_le (time_at y) b ≡ false → nat_lt (time_at x) (time_at y) ≡ true
row_first b x y e f = grind (arith, nat_tests)

row_last : (b : ℕ) (x y : Row) → nat_le (time_at x) b ≡ false → nat_le (time_at y) b ≡ true → nat_lt (time_at x) (time_at y) ≡ false
row_last b x y e f = grind (arith, nat_tests)

-- rows in order of time: those up to a border, and then the later ones
pub record PartsAt (b : ℕ) (rows first second : List Row) : Type 0 where
  pub order : in_time_order rows ≡ in_time_order first ++ in_time_order second
  pub early : list_all (λ (row : Row). nat_le (time_at row) b) (in_time_order first) ≡ true
  pub late : list_all (λ (row : Row). not (nat_le (time_at row) b)) (in_time_order second) ≡ true

pub parts_at : (b : ℕ) (rows : List Row) → PartsAt b rows (filter (λ (row : Row). nat_le (time_at row) b) rows)
    (filter (λ (row : Row). not (nat_le (time_at row) b)) rows)
parts_at b rows = record {
  order = in_order-cut (is_less time_at) (λ (row : Row). nat_le (time_at row) b) (row_first b) (row_last b) rows;
  early = all_early (is_less time_at) (λ (row : Row). nat_le (time_at row) b) (row_first b) (row_last b) rows;
  late = all_late (is_less time_at) (λ (row : Row). nat_le (time_at row) b) (row_first b) (row_last b) rows;
}

pub parts_between : (above : Option ℕ) (b : ℕ) (end : Border) (rows : List Row) → Covers b end → Exceeds b above
    → PartsAt b (rows_between above end rows) (rows_between above (At b) rows) (rows_between (Some b) end rows)
parts_between above b end rows covers exceeds =
    subst (λ first. PartsAt b (rows_between above end rows) first (rows_between (Some b) end rows)) (early_between above b end rows covers)
    (subst (λ second. PartsAt b (rows_between above end rows) (filter (λ (row : Row). nat_le (time_at row) b) (rows_between above end rows)) second)
    (late_between above b end rows exceeds) (parts_at b (rows_between above end rows)))

-- ---- the events of an itag
pub kept_first : {X : Type 0} (g : X → Bool) (xs ys : List X) → list_all g xs ≡ true → list_all (λ x. not (g x)) ys ≡ true → filter g (xs ++ ys) ≡ xs
kept_first g xs ys all none = filter-append g xs ys ∙ ap (λ l. l ++ filter g ys) (kept_all g xs all) ∙ ap (λ l. xs ++ l) (kept_none g ys none) ∙ append-nil xs

pub kept_second : {X : Type 0} (g : X → Bool) (xs ys : List X) → list_all (λ x. not (g x)) xs ≡ true → list_all g ys ≡ true → filter g (xs ++ ys) ≡ ys
kept_second g xs ys none all = filter-append g xs ys ∙ ap (λ l. l ++ filter g ys) (kept_none g xs none) ∙ kept_all g ys all

list_all_alike : {X : Type 0} (p q : X → Bool) → ((x : X) → p x ≡ q x) → (xs : List X) → list_all p xs ≡ list_all q xs
list_all_alike p q same xs = λ i. list_all (λ x. same x i) xs

-- the events of an itag among the rows up to an end are those up to a border, and then the later ones
pub record PlaceCut (b : ℕ) (whole first second : List Item) : Type 0 where
  pub early : events_of first ≡ filter (λ (x : Event). nat_le x.time b) (events_of whole)
  pub late : events_of second ≡ filter (λ (x : Event). nat_lt b x.time) (events_of whole)

place_cut : (kinds : List Kind) (s : Source) (first : ℕ) (b : ℕ) (start : Option ℕ) (end : Border) (rows : List Row) (place : ℕ) → Covers b end
    → Exceeds b start
    → PlaceCut b (items_at kinds s first (rows_between start end rows) place) (items_at kinds s first (rows_between start (At b) rows) place)
    (items_at kinds s first (rows_between (Some b) end rows) place)
place_cut kinds s first b start end rows place covers exceeds =
    let f = item_in kinds s first place in
    let q = rows_between start end rows in
    let front = in_time_order (rows_between start (At b) rows) in
    let back = in_time_order (rows_between (Some b) end rows) in
    let before = events_of (filter_map f front) in
    let behind = events_of (filter_map f back) in
    let parts = parts_between start b end rows covers exceeds in
    let before_early = events_timed (λ n. nat_le n b) kinds s first place front parts.early in
    let behind_late = events_timed (λ n. not (nat_le n b)) kinds s first place back parts.late in
    let before_not : list_all (λ (x : Event). not (nat_lt b x.time)) before ≡ true = list_all_alike _ _ (λ (x : Event). not_later b x.time) before
    ∙ before_early in
    let behind_later : list_all (λ (x : Event). nat_lt b x.time) behind ≡ true = list_all_alike _ _ (λ (x : Event). later_is b x.time) behind ∙ behind_late in
    let whole : events_of (items_at kinds s first q place) ≡ before ++ behind =
    events_of-end (filter_map f (in_time_order q)) ∙ ap (λ l. events_of (filter_map f l)) parts.order
    ∙ ap events_of (filter_map-append f front back) ∙ events_of-append (filter_map f front) (filter_map f back) in
    record {
      early = events_of-end (filter_map f front)
          ∙ sym (ap (filter (λ (x : Event). nat_le x.time b)) whole ∙ kept_first (λ (x : Event). nat_le x.time b) before behind before_early behind_late);
      late = events_of-end (filter_map f back) ∙ sym (ap (filter (λ (x : Event). nat_lt b x.time)) whole
          ∙ kept_second (λ (x : Event). nat_lt b x.time) before behind before_not behind_later);
    }
  where
    events_of-end : (xs : List Item) → events_of (xs ++ EndItem ∷ []) ≡ events_of xs
    events_of-end xs = events_of-append xs (EndItem ∷ []) ∙ append-nil (events_of xs)

    not_later : (b n : ℕ) → not (nat_lt b n) ≡ nat_le n b
    not_later b n = grind (arith, nat_tests)

-- ---- the events of all itags
maps_cut : (g : Event → Bool) (these those : ℕ → List Item) → ((i : ℕ) → events_of (these i) ≡ filter g (events_of (those i))) → (range : List ℕ)
    → all_events (map these range) ≡ filter g (all_events (map those range))
maps_cut g these those same [] = refl
maps_cut g these those same (i ∷ range) =
    ap (λ l. l ++ all_events (map these range)) (same i) ∙ ap (λ l. filter g (events_of (those i)) ++ l) (maps_cut g these those same range)
    ∙ sym (filter-append g (events_of (those i)) (all_events (map those range)))

sources_cut : (g : Event → Bool) (these those : List Source × Source → List (List Item)) (es : List (List Source × Source))
    → AllByRecursion (λ (e : List Source × Source). all_events (these e) ≡ filter g (all_events (those e))) es
    → all_events (flat_map these es) ≡ filter g (all_events (flat_map those es))
sources_cut g these those [] all = refl
sources_cut g these those (e ∷ es) all =
    flat_map-append events_of (these e) (flat_map these es) ∙ ap (λ l. l ++ all_events (flat_map these es)) all.0
    ∙ ap (λ l. filter g (all_events (those e)) ++ l) (sources_cut g these those es all.1)
    ∙ sym (ap (filter g) (flat_map-append events_of (those e) (flat_map those es)) ∙ filter-append g (all_events (those e)) (all_events (flat_map those es)))

-- ---- the same with times: the borders are times, and the events are at their moments
pub covers_moments : (timing : Timing) (fits : IsTiming timing) (b : ℕ) (end : Border) → Covers b end → Covers (last_moment timing b) (end_moment timing end)
covers_moments timing fits b end covers m e = is_up_to-moment timing fits end m ∙ covers (m / timing.scale) (sym (border_test timing fits m b) ∙ e)

pub exceeds_moments : (timing : Timing) (fits : IsTiming timing) (b : ℕ) (above : Option ℕ) → Exceeds b above
    → Exceeds (last_moment timing b) (border_moment timing above)
exceeds_moments timing fits b above exceeds m e = is_above-moment timing fits above m ∙ exceeds (m / timing.scale) (sym (above_test timing fits m b) ∙ e)

pub record MomentsCut (timing : Timing) (b : ℕ) (whole first second : List Item) : Type 0 where
  pub early : events_of first ≡ filter (λ (x : Event). nat_le (x.time / timing.scale) b) (events_of whole)
  pub late : events_of second ≡ filter (λ (x : Event). nat_lt b (x.time / timing.scale)) (events_of whole)

moments_cut : (timing : Timing) (fits : IsTiming timing) (kinds : List Kind) (s : Source) (first : ℕ) (b : ℕ) (start : Option ℕ) (end : Border)
    (rows : List Row) (place : ℕ) → Covers b end → Exceeds b start
    → MomentsCut timing b (items_at kinds s first (at_moments timing [] (rows_between start end rows)) place)
    (items_at kinds s first (at_moments timing [] (rows_between start (At b) rows)) place)
    (items_at kinds s first (at_moments timing [] (rows_between (Some b) end rows)) place)
moments_cut timing fits kinds s first b start end rows place covers exceeds =
    let events = λ (own : List Row). events_of (items_at kinds s first own place) in
    let cut = place_cut kinds s first (last_moment timing b) (border_moment timing start) (end_moment timing end) (at_moments timing [] rows) place
    (covers_moments timing fits b end covers) (exceeds_moments timing fits b start exceeds) in
    let whole = ap events (sym (between_moments timing fits start end rows)) in
    record {
      early = ap events (between_moments timing fits start (At b) rows) ∙ cut.early ∙ ap (filter (λ (x : Event). nat_le x.time (last_moment timing b))) whole
          ∙ filter_alike _ _ (λ (x : Event). border_test timing fits x.time b) (events (at_moments timing [] (rows_between start end rows)));
      late = ap events (between_moments timing fits (Some b) end rows) ∙ cut.late ∙ ap (filter (λ (x : Event). nat_lt (last_moment timing b) x.time)) whole
          ∙ filter_alike _ _ (λ (x : Event). above_test timing fits x.time b) (events (at_moments timing [] (rows_between start end rows)));
    }

-- the timing of each source
pub fits_each : (p : Program) → AllByRecursion (λ (e : List Source × Source). IsTiming (timing_of p (length e.0))) (each_with_before p.sources)
fits_each p = each_source (λ i s. IsTiming (timing_of p i)) p.sources (λ i s e. timing_fits p i (slice_get_within p.sources i s e))

-- the items of an itag, by the sources before its own
abbrev pub items_in_round : Program → (ℕ → List Next) → Option ℕ → Border → Declared → ℕ → List Item
items_in_round p reads above end e =
    items_at p.kinds e.1 (sum_by width e.0) (at_moments (timing_of p (length e.0)) [] (rows_between above end (rows_of (reads (length e.0)))))

place_cut_of : (p : Program) (b : ℕ) (start : Option ℕ) (end : Border) (reads : ℕ → List Next) → Covers b end → Exceeds b start
    → (e : Declared) → IsTiming (timing_of p (length e.0)) → (i : ℕ)
    → MomentsCut (timing_of p (length e.0)) b (items_in_round p reads start end e i) (items_in_round p reads start (At b) e i)
    (items_in_round p reads (Some b) end e i)
place_cut_of p b start end reads covers exceeds e fits i =
    moments_cut (timing_of p (length e.0)) fits p.kinds e.1 (sum_by width e.0) b start end (rows_of (reads (length e.0))) i covers exceeds

-- ---- ticks
-- the events of the ticks that pass a test are those that pass it at their moments
ticks_kept : (timing : Timing) (itag : ℕ) (g h : ℕ → Bool) → ((t : ℕ) → g (moment_at timing t 0) ≡ h t) → (ticks : List ℕ)
    → events_of (items_of_ticks timing itag (filter h ticks)) ≡ filter (λ (x : Event). g x.time) (events_of (items_of_ticks timing itag ticks))
ticks_kept timing itag g h same [] = refl
ticks_kept timing itag g h same (t ∷ ticks) =
    let event : Event = record { time = moment_at timing t 0; itag = record { 0 = itag }; item = 0; value = pos 0 } in
    let rest = filter (λ (x : Event). g x.time) (events_of (items_of_ticks timing itag ticks)) in
    rw (same t) (elim (h t) as (λ b. events_of (items_of_ticks timing itag (cond b (t ∷ filter h ticks) (filter h ticks))) ≡ cond b (event ∷ rest) rest) [
      | true ↦ ap (λ l. event ∷ l) (ticks_kept timing itag g h same ticks)
      | false ↦ ticks_kept timing itag g h same ticks
    ])

-- among the ticks of a round those up to a border, and the later ones
ticks_early : (above : Option ℕ) (b : ℕ) (end : Border) (ticks : List ℕ) → Covers b end
    → filter (λ t. nat_le t b) (filter (is_within above end) ticks) ≡ filter (is_within above (At b)) ticks
ticks_early above b end ticks covers = filter_twice (λ t. nat_le t b) (is_within above end) ticks
    ∙ filter_alike _ _ (λ t. early_timed (is_above above t) b end t covers) ticks

ticks_late : (above : Option ℕ) (b : ℕ) (end : Border) (ticks : List ℕ) → Exceeds b above
    → filter (λ t. nat_lt b t) (filter (is_within above end) ticks) ≡ filter (is_within (Some b) end) ticks
ticks_late above b end ticks exceeds = filter_twice (λ t. nat_lt b t) (is_within above end) ticks
    ∙ filter_alike _ _ (λ t. late_timed (is_above above t) (nat_lt b t) (is_up_to end t) (exceeds t)) ticks

clock_early : (timing : Timing) (fits : IsTiming timing) (itag b : ℕ) (start : Option ℕ) (end : Border) (ticks : List ℕ) → Covers b end
    → events_of (items_of_ticks timing itag (filter (is_within start (At b)) ticks))
    ≡ filter (λ (x : Event). nat_le (x.time / timing.scale) b) (events_of (items_of_ticks timing itag (filter (is_within start end) ticks)))
clock_early timing fits itag b start end ticks covers =
    ap (λ l. events_of (items_of_ticks timing itag l)) (sym (ticks_early start b end ticks covers))
    ∙ ticks_kept timing itag (λ m. nat_le (m / timing.scale) b) (λ t. nat_le t b) (λ t. ap (λ n. nat_le n b) (time_of-moment timing fits t 0))
    (filter (is_within start end) ticks)

clock_late : (timing : Timing) (fits : IsTiming timing) (itag b : ℕ) (start : Option ℕ) (end : Border) (ticks : List ℕ) → Exceeds b start
    → events_of (items_of_ticks timing itag (filter (is_within (Some b) end) ticks))
    ≡ filter (λ (x : Event). nat_lt b (x.time / timing.scale)) (events_of (items_of_ticks timing itag (filter (is_within start end) ticks)))
clock_late timing fits itag b start end ticks exceeds =
    ap (λ l. events_of (items_of_ticks timing itag l)) (sym (ticks_late start b end ticks exceeds))
    ∙ ticks_kept timing itag (λ m. nat_lt b (m / timing.scale)) (λ t. nat_lt b t) (λ t. ap (λ n. nat_lt b n) (time_of-moment timing fits t 0))
    (filter (is_within start end) ticks)

-- ---- the lists of a source
abbrev pub lists_in_round : Program → (ℕ → List Next) → Option ℕ → Border → Declared → List (List Item)
lists_in_round p reads above end e =
    lists_of_source p (rows_between above end (rows_of (reads (length e.0)))) (ticks_between p above end reads e) e

module _ (p : Program) (b : ℕ) (start : Option ℕ) (end : Border) (reads : ℕ → List Next) (covers : Covers b end) (exceeds : Exceeds b start)
    (e : Declared) (fits : IsTiming (timing_of p (length e.0))) where
  abbrev clock_items : Option ℕ → Border → ℕ → List Item
  clock_items above border place = items_of_ticks (timing_of p (length e.0)) (sum_by width e.0 + place) (ticks_between p above border reads e)

  abbrev lists_by : Bool → Option ℕ → Border → List (List Item)
  lists_by c above border =
      if c then map (clock_items above border) (range_with_len 0 (width e.1))
      else map (items_in_round p reads above border e) (range_with_len 0 (width e.1))

  source_early : all_events (lists_in_round p reads start (At b) e)
      ≡ filter (λ (x : Event). nat_le (time_of_moment p x.time) b) (all_events (lists_in_round p reads start end e))
  source_early =
      let is_early = λ (x : Event). nat_le (time_of_moment p x.time) b in
      elim (is_clock e.1) as (λ c. all_events (lists_by c start (At b)) ≡ filter is_early (all_events (lists_by c start end))) [
        | true ↦ maps_cut is_early (clock_items start (At b)) (clock_items start end)
            (λ i. clock_early (timing_of p (length e.0)) fits (sum_by width e.0 + i) b start end (ticks_of p (ranks p reads) e) covers)
            (range_with_len 0 (width e.1))
        | false ↦ maps_cut is_early (items_in_round p reads start (At b) e) (items_in_round p reads start end e)
            (λ i. (place_cut_of p b start end reads covers exceeds e fits i).early) (range_with_len 0 (width e.1))
      ]

  source_late : all_events (lists_in_round p reads (Some b) end e)
      ≡ filter (λ (x : Event). nat_lt b (time_of_moment p x.time)) (all_events (lists_in_round p reads start end e))
  source_late =
      let is_late = λ (x : Event). nat_lt b (time_of_moment p x.time) in
      elim (is_clock e.1) as (λ c. all_events (lists_by c (Some b) end) ≡ filter is_late (all_events (lists_by c start end))) [
        | true ↦ maps_cut is_late (clock_items (Some b) end) (clock_items start end)
            (λ i. clock_late (timing_of p (length e.0)) fits (sum_by width e.0 + i) b start end (ticks_of p (ranks p reads) e) exceeds)
            (range_with_len 0 (width e.1))
        | false ↦ maps_cut is_late (items_in_round p reads (Some b) end e) (items_in_round p reads start end e)
            (λ i. (place_cut_of p b start end reads covers exceeds e fits i).late) (range_with_len 0 (width e.1))
      ]

-- what is read, cut at a border
pub between_cut : (p : Program) (b : ℕ) (start : Option ℕ) (end : Border) (reads : ℕ → List Next) → Covers b end → Exceeds b start
    → AreCutAt p b (lists_between p start end reads) (lists_between p start (At b) reads) (lists_between p (Some b) end reads)
between_cut p b start end reads covers exceeds = record {
  early = sources_cut (λ (x : Event). nat_le (time_of_moment p x.time) b) (lists_in_round p reads start (At b)) (lists_in_round p reads start end)
      (each_with_before p.sources)
      (all_map (λ (e : Declared). IsTiming (timing_of p (length e.0))) _ (each_with_before p.sources)
      (λ e fits. source_early p b start end reads covers exceeds e fits) (fits_each p));
  late = sources_cut (λ (x : Event). nat_lt b (time_of_moment p x.time)) (lists_in_round p reads (Some b) end) (lists_in_round p reads start end)
      (each_with_before p.sources)
      (all_map (λ (e : Declared). IsTiming (timing_of p (length e.0))) _ (each_with_before p.sources)
      (λ e fits. source_late p b start end reads covers exceeds e fits) (fits_each p));
}

-- ---- the border of a round is later than the one before it
pub list_all_true : {X : Type 0} (p : X → Bool) → ((x : X) → p x ≡ true) → (xs : List X) → list_all p xs ≡ true
list_all_true p h [] = refl
list_all_true p h (x ∷ xs) = both (p x) _ (h x) (list_all_true p h xs)

pub none_between : (b t : ℕ) (rows : List Row) → t ≤ b → rows_between (Some b) (At t) rows ≡ []
none_between b t rows le = kept_none (is_between (Some b) (At t)) rows (list_all_true _ apart rows)
  where
    apart_at : (time : ℕ) → not (nat_lt b time && nat_le time t) ≡ true
    apart_at time = by_test (nat_lt b time) refl
      where
        by_test : (c : Bool) → nat_lt b time ≡ c → not (c && nat_le time t) ≡ true
        by_test true e = let f : nat_le time t ≡ false = grind (arith, nat_tests) in rw f refl
        by_test false e = refl

    apart : (row : Row) → not (is_between (Some b) (At t) row) ≡ true
    apart (EventRow time name key fields) = apart_at time
    apart (BeatRow time) = apart_at time
    apart EndRow = refl

pub later_border : (timing : Timing) (s : Source) (rows b t : ℕ) (lines : List Next) → 1 ≤ rows → is_enough timing rows (Some b) s lines ≡ true
    → settled_time timing s lines ≡ Some t → b < t
later_border timing s rows b t lines one enough at = by_order (cases_lt b t)
  where
    few : nat_le rows (length (rows_between (Some b) (At t) (rows_of lines))) ≡ true
    few = sym (ap (λ o. nat_le rows (option_map_or (λ u. length (rows_between (Some b) (At u) (rows_of lines))) o 0)) at) ∙ enough

    by_order : (b < t) ⊎ (t ≤ b) → b < t
    by_order (inl lt) = lt
    by_order (inr ge) = let none : length (rows_between (Some b) (At t) (rows_of lines)) ≡ 0 = ap length (none_between b t (rows_of lines) ge) in
        absurd (grind (arith, nat_tests))

-- an element that is found among those that pass a test passes it
passes_kept : {X : Type 0} (f : X → Bool) (xs : List X) (k : ℕ) (x : X) → slice_get (filter f xs) k ≡ Some x → f x ≡ true
passes_kept f xs k x there = passes_at f (filter f xs) k x (all_kept f xs) there

round_later : (p : Program) (rows b t : ℕ) (whole before now : ℕ → List Next) → 1 ≤ rows → IsRoundAt p rows (Some b) whole before now t → b < t
round_later p rows b t whole before now one round = by_full round.full
  where
    by_full : IsFull p rows (Some b) whole before now t → b < t
    by_full (BySource i s at reads) = later_border (timing_of p i) s rows b t (now i) one reads.stops.1 reads.stops.2
    by_full (ByTick i s at last) =
        true_lt b t (and_left (nat_lt b t) _ (passes_kept (is_within (Some b) Closed) (ticks_of p (ranks p now) (take i p.sources, s)) (rows - 1) t last))

pub covers_end : (p : Program) (rows b : ℕ) (whole before now : ℕ → List Next) (end : Border) → 1 ≤ rows → IsRound p rows (Some b) whole before now end
    → Covers b end
covers_end p rows b whole before now Closed one round = λ t e. refl
covers_end p rows b whole before now (At t) one round = λ n e. let later = round_later p rows b t whole before now one round in grind (arith, nat_tests)

-- the border of a round is above the start of the run
pub round_exceeds : (p : Program) (rows b : ℕ) (above : Option ℕ) (whole before now : ℕ → List Next) → 1 ≤ rows → IsRoundAt p rows above whole before now b
    → Exceeds b above
round_exceeds p rows b None whole before now one round = λ t e. refl
round_exceeds p rows b (Some a) whole before now one round = λ t e. let later = round_later p rows a b whole before now one round in grind (arith, nat_tests)

pub exceeds_start : (p : Program) (rows t : ℕ) (whole : ℕ → List Next) (start : Option ℕ) (done : List (List (List Item))) (above : Option ℕ)
    (before : ℕ → List Next)
    → 1 ≤ rows → ComesFrom p rows whole start done above before → Exceeds t above → Exceeds t start
exceeds_start p rows t whole start done above before one (Starts reads none) exceeds = exceeds
exceeds_start p rows t whole start done above before one (GoesOn done' above' before' mid b came was) exceeds =
    let up = round_exceeds p rows b above' whole before' mid one was in
    exceeds_start p rows t whole start done' above' before' one came (λ u e. up u (exceeds u e))

-- no event is between a border and itself
pub no_events : (p : Program) (t : ℕ) (reads : ℕ → List Next) → all_events (lists_between p (Some t) (At t) reads) ≡ []
no_events p t reads =
    let cut = between_cut p t None (At t) reads (λ u e. e) (λ u e. refl) in
    let all = all_events (lists_between p None (At t) reads) in
    let early = filter (λ (x : Event). nat_le (time_of_moment p x.time) t) all in
    let none : list_all (λ (x : Event). not (nat_lt t (time_of_moment p x.time))) early ≡ true =
    list_all_alike _ _ (λ (x : Event). not_after t (time_of_moment p x.time)) early ∙ all_kept (λ (x : Event). nat_le (time_of_moment p x.time) t) all in
    cut.late ∙ ap (filter (λ (x : Event). nat_lt t (time_of_moment p x.time))) cut.early
    ∙ kept_none (λ (x : Event). nat_lt t (time_of_moment p x.time)) early none
  where
    not_after : (b n : ℕ) → not (nat_lt b n) ≡ nat_le n b
    not_after b n = grind (arith, nat_tests)

pub law_of_no_rows : LawOfNoRows
law_of_no_rows p opening t reads =
    let none = no_events p t reads in
    record {
      state = sym (ap (λ events. state_after p opening (in_order is_before events)) none);
      outputs = sym (ap (λ events. outputs_of p opening (in_order is_before events)) none);
      reports = sym (ap (λ events. report p (outputs_of p opening (in_order is_before events))) none);
    }
