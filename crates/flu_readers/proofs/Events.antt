-- Which events the lists of the itags have: those of the merged list are those of the lists, each in that of its itag; an event of a source with a file
-- is that of a row, and the events of a clock are its ticks.
use Rattle.std.proofs.Common.{◌≡◌, ◌<◌, ◌+◌, ℕ, zero, suc, Bool, true, false, cond, List, [], ◌∷◌, ◌++◌, length, map, Some, inl, inr}
use Rattle.std.proofs.Common.{refl, sym, ap, subst, ◌∙◌, arith}
use Rattle.std.specs.Prelude.{Contains, slice_index_or, option_map, unwrap_or, ◌==◌, if◌then◌else◌, None, pos}
use Rattle.std.specs.List.{filter, filter_map, flat_map, list_any, cons_option}
use Rattle.std.proofs.lemmas.Bool.{or_cases, or_left, or_right}
use Rattle.std.proofs.lemmas.List.Elements.{Contains-append_left, Contains-append_right, Contains-append_cases}
use Rattle.std.proofs.lemmas.List.Sorted.{Contains-permutation, IsPermutation-sym}
use Rattle.flu_lemmas.specs.Counting.{times}
use Rattle.flu_lemmas.proofs.Containing.{contains_here, contains_later, contains_cases, contains_none, kept_later}
use Rattle.flu_lemmas.proofs.Sorting.{in_order-permutation}
use Rattle.flu_lemmas.proofs.Tests.{and_left, and_right, true_eq}
use Rattle.flu_model.specs.declared.events.Event.{Event}
use Rattle.flu_model.specs.declared.events.Item.{Item}
use Rattle.flu_model.specs.declared.events.Item.TheVariants.{Event as EventItem, Beat as BeatItem, End as EndItem}
use Rattle.flu_model.specs.declared.jobs.Kind.{Kind}
use Rattle.flu_model.specs.declared.jobs.Source.{Source}
use Rattle.flu_model.specs.declared.moments.Timing.{Timing}
use Rattle.flu_model.specs.Merging.{is_before, events_of, all_events, merged}
use Rattle.flu_model.specs.Moments.{moment_at}
use Rattle.flu_model.specs.Streaming.{is_stream_from, are_streams}
use Rattle.flu_rows.specs.declared.row.Row.{Row}
use Rattle.flu_rows.specs.declared.row.Row.TheVariants.{Event as EventRow, Beat as BeatRow, End as EndRow}
use Rattle.flu_streams.specs.Clocks.{items_of_ticks}
use Rattle.flu_streams.specs.Good.{event_of, item_in, time_at, with_time, at_moments, in_time_order, items_at}
use Rattle.flu_streams.specs.Tags.{place_named, given_to}
use Rattle.flu_streams.specs.Tests.{time_in, times_of}

-- ---- what a list has
pub in_flat : {X Y : Type 0} (f : X → List Y) (xs : List X) (x : X) (y : Y) → Contains xs x → Contains (f x) y → Contains (flat_map f xs) y
in_flat f [] x y there own = absurd (contains_none x there)
in_flat f (z ∷ xs) x y there own =
    elim (contains_cases z x xs there) [
      | inl e ↦ Contains-append_left (f z) (flat_map f xs) y (subst (λ w. Contains (f w) y) (sym e) own)
      | inr later ↦ Contains-append_right (f z) (flat_map f xs) y (in_flat f xs x y later own)
    ]

pub of_flat : {X Y : Type 0} (f : X → List Y) (xs : List X) (y : Y) → Contains (flat_map f xs) y → (x : X) × Contains xs x × Contains (f x) y
of_flat f [] y there = absurd (contains_none y there)
of_flat f (z ∷ xs) y there =
    elim (Contains-append_cases (f z) (flat_map f xs) y there) [
      | inl here ↦ (z, contains_here z xs, here)
      | inr later ↦ (let rest = of_flat f xs y later in (rest.0, contains_later z rest.0 xs rest.1, rest.2))
    ]

pub in_map : {X Y : Type 0} (f : X → Y) (xs : List X) (x : X) → Contains xs x → Contains (map f xs) (f x)
in_map f [] x there = absurd (contains_none x there)
in_map f (z ∷ xs) x there =
    elim (contains_cases z x xs there) [
      | inl e ↦ subst (λ y. Contains (map f (z ∷ xs)) (f y)) e (contains_here (f z) (map f xs))
      | inr later ↦ contains_later (f z) (f x) (map f xs) (in_map f xs x later)
    ]

pub of_map : {X Y : Type 0} (f : X → Y) (xs : List X) (y : Y) → Contains (map f xs) y → (x : X) × Contains xs x × (f x ≡ y)
of_map f [] y there = absurd (contains_none y there)
of_map f (x ∷ xs) y there =
    elim (contains_cases (f x) y (map f xs) there) [
      | inl e ↦ (x, contains_here x xs, e)
      | inr later ↦ (let rest = of_map f xs y later in (rest.0, contains_later x rest.0 xs rest.1, rest.2))
    ]

-- ---- tests of elements
pub any_there : {X : Type 0} (test : X → Bool) (xs : List X) (x : X) → Contains xs x → test x ≡ true → list_any test xs ≡ true
any_there test [] x there is = absurd (contains_none x there)
any_there test (y ∷ ys) x there is =
    elim (contains_cases y x ys there) [
      | inl same ↦ or_left (test y) (list_any test ys) (ap test same ∙ is)
      | inr later ↦ or_right (test y) (list_any test ys) (any_there test ys x later is)
    ]

pub any_found : {X : Type 0} (test : X → Bool) (xs : List X) → list_any test xs ≡ true → (x : X) × Contains xs x × (test x ≡ true)
any_found test [] is = absurd cc
any_found test (y ∷ ys) is =
    elim (or_cases (test y) (list_any test ys) is) [
      | inl here ↦ (y, contains_here y ys, here)
      | inr later ↦ (let rest = any_found test ys later in (rest.0, contains_later y rest.0 ys rest.1, rest.2))
    ]

pub none_pass : {X : Type 0} (test : X → Bool) (xs : List X) → ((x : X) → Contains xs x → test x ≡ false) → filter test xs ≡ []
none_pass test [] fails = refl
none_pass test (x ∷ xs) fails =
    ap (λ b. cond b (x ∷ filter test xs) (filter test xs)) (fails x (contains_here x xs))
    ∙ none_pass test xs (λ y there. fails y (contains_later x y xs there))

pub filter_mapped : {X Y : Type 0} (test : Y → Bool) (f : X → Y) (xs : List X) → filter test (map f xs) ≡ map f (filter (λ x. test (f x)) xs)
filter_mapped test f [] = refl
filter_mapped {X} test f (x ∷ xs) =
    ap (λ l. cond (test (f x)) (f x ∷ l) l) (filter_mapped test f xs) ∙ by (test (f x)) (filter (λ y. test (f y)) xs)
  where
    by : (b : Bool) (l : List X) → cond b (f x ∷ map f l) (map f l) ≡ map f (cond b (x ∷ l) l)
    by true l = refl
    by false l = refl

-- ---- the events of streams
pub stream_itag : (i low : ℕ) (items : List Item) (x : Event) → is_stream_from i low items ≡ true → Contains (events_of items) x → x.itag.0 ≡ i
stream_itag i low [] x e there = absurd (contains_none x there)
stream_itag i low (EventItem y ∷ items) x e there =
    elim (contains_cases y x (events_of items) there) [
      | inl same ↦ ap (λ (z : Event). z.itag.0) (sym same) ∙ true_eq y.itag.0 i (and_left _ _ (and_left _ _ e))
      | inr later ↦ stream_itag i (y.time + 1) items x (and_right _ _ e) later
    ]
stream_itag i low (BeatItem t ∷ items) x e there = stream_itag i (t + 1) items x (and_right _ _ e) there
stream_itag i low (EndItem ∷ []) x e there = absurd (contains_none x there)
stream_itag i low (EndItem ∷ y ∷ items) x e there = absurd cc

in_all : (lists : List (List Item)) (i : ℕ) (x : Event) → Contains (events_of (slice_index_or lists i [])) x → Contains (all_events lists) x
in_all [] i x there = absurd (contains_none x there)
in_all (items ∷ lists) zero x there = Contains-append_left (events_of items) (all_events lists) x there
in_all (items ∷ lists) (suc i) x there = Contains-append_right (events_of items) (all_events lists) x (in_all lists i x there)

pub in_merged : (lists : List (List Item)) (i : ℕ) (x : Event) → Contains (events_of (slice_index_or lists i [])) x → Contains (merged lists) x
in_merged lists i x there =
    Contains-permutation (all_events lists) (merged lists) x (in_order-permutation is_before (all_events lists)) (in_all lists i x there)

-- an event stands in the list of its itag
record IsIn (lists : List (List Item)) (from : ℕ) (x : Event) : Type 0 where
  place : ℕ
  itag : x.itag.0 ≡ from + place
  within : place < length lists
  there : Contains (events_of (slice_index_or lists place [])) x

of_all : (from : ℕ) (lists : List (List Item)) (x : Event) → are_streams from lists ≡ true → Contains (all_events lists) x → IsIn lists from x
of_all from [] x all there = absurd (contains_none x there)
of_all from (items ∷ lists) x all there =
    elim (Contains-append_cases (events_of items) (all_events lists) x there) [
      | inl here ↦ (let own = stream_itag from 0 items x (and_left (is_stream_from from 0 items) (are_streams (from + 1) lists) all) here in
          record { place = 0; itag = omega (arith, own); within = omega arith; there = here })
      | inr later ↦ (let rest = of_all (from + 1) lists x (and_right (is_stream_from from 0 items) (are_streams (from + 1) lists) all) later in
          let itag = rest.itag in
          let within = rest.within in
          record { place = suc rest.place; itag = omega (arith, itag); within = omega (arith, within); there = rest.there })
    ]

pub of_merged : (lists : List (List Item)) (x : Event) → are_streams 0 lists ≡ true → Contains (merged lists) x
    → (x.itag.0 < length lists) × Contains (events_of (slice_index_or lists x.itag.0 [])) x
of_merged lists x all there =
    let own = of_all 0 lists x all (Contains-permutation (merged lists) (all_events lists) x
    (IsPermutation-sym (all_events lists) (merged lists) (in_order-permutation is_before (all_events lists))) there) in
    let itag = own.itag in
    let within = own.within in
    let same : own.place ≡ x.itag.0 = omega (arith, itag) in
    (omega (arith, itag, within), subst (λ i. Contains (events_of (slice_index_or lists i [])) x) same own.there)

-- ---- the events of rows
record IsOfRow (rows : List Row) (x : Event) : Type 0 where
  row : Row
  there : Contains rows row
  time : time_in row ≡ Some x.time

item_row : (kinds : List Kind) (s : Source) (first place : ℕ) (rows : List Row) (x : Event)
    → Contains (events_of (filter_map (item_in kinds s first place) rows ++ EndItem ∷ [])) x → IsOfRow rows x
item_row kinds s first place [] x there = absurd (contains_none x there)
item_row kinds s first place (EventRow time name key fields ∷ rows) x there =
    elim (unwrap_or (option_map (λ n. n == place) (place_named kinds s name key)) false) as (λ b.
    Contains (events_of (cons_option (if b then Some (EventItem own) else None) (filter_map (item_in kinds s first place) rows) ++ EndItem ∷ [])) x
    → IsOfRow (EventRow time name key fields ∷ rows) x) [
      | true ↦ λ here. elim (contains_cases own x (events_of (filter_map (item_in kinds s first place) rows ++ EndItem ∷ [])) here) [
        | inl e ↦ record {
          row = EventRow time name key fields;
          there = contains_here (EventRow time name key fields) rows;
          time = ap (λ (y : Event). Some y.time) e;
        }
        | inr later ↦ further (item_row kinds s first place rows x later)
      ]
      | false ↦ λ here. further (item_row kinds s first place rows x here)
    ] there
  where
    own : Event
    own = event_of time (first + place) (given_to kinds name fields)

    further : IsOfRow rows x → IsOfRow (EventRow time name key fields ∷ rows) x
    further is = record { row = is.row; there = contains_later (EventRow time name key fields) is.row rows is.there; time = is.time }
item_row kinds s first place (BeatRow time ∷ rows) x there =
    let is = item_row kinds s first place rows x there in
    record { row = is.row; there = contains_later (BeatRow time) is.row rows is.there; time = is.time }
item_row kinds s first place (EndRow ∷ rows) x there =
    let is = item_row kinds s first place rows x there in
    record { row = is.row; there = contains_later EndRow is.row rows is.there; time = is.time }

-- a moment of one of these times
pub record IsMoment (timing : Timing) (times : List ℕ) (m : ℕ) : Type 0 where
  pub time : ℕ
  pub before : ℕ
  pub there : Contains times time
  pub at : m ≡ moment_at timing time before

own_moment : (timing : Timing) (b m : ℕ) (r row : Row) (rows : List Row) → with_time (moment_at timing (time_at r) b) r ≡ row → time_in row ≡ Some m
    → IsMoment timing (times_of (r ∷ rows)) m
own_moment timing b m (EventRow time name key fields) row rows e at =
    let same : Some (moment_at timing time b) ≡ Some m = ap time_in e ∙ at in
    record { time = time; before = b; there = contains_here time (times_of rows); at = cc }
own_moment timing b m (BeatRow time) row rows e at =
    let same : Some (moment_at timing time b) ≡ Some m = ap time_in e ∙ at in
    record { time = time; before = b; there = contains_here time (times_of rows); at = cc }
own_moment timing b m EndRow row rows e at = let none : None ≡ Some m = ap time_in e ∙ at in absurd cc

at_row : (timing : Timing) (earlier : List ℕ) (rows : List Row) (row : Row) (m : ℕ) → Contains (at_moments timing earlier rows) row → time_in row ≡ Some m
    → IsMoment timing (times_of rows) m
at_row timing earlier [] row m there at = absurd (contains_none row there)
at_row timing earlier (r ∷ rows) row m there at =
    elim (contains_cases (with_time (moment_at timing (time_at r) (times (time_at r) earlier)) r) row (at_moments timing (earlier ++ times_of (r ∷ [])) rows)
    there) [
      | inl e ↦ own_moment timing (times (time_at r) earlier) m r row rows e at
      | inr later ↦ (let rest = at_row timing (earlier ++ times_of (r ∷ [])) rows row m later at in
          record { time = rest.time; before = rest.before; there = kept_later (time_in r) (times_of rows) rest.time rest.there; at = rest.at })
    ]

-- an event among the items of an itag stands at a moment of a row
pub event_moment : (timing : Timing) (kinds : List Kind) (s : Source) (first place : ℕ) (rows : List Row) (x : Event)
    → Contains (events_of (items_at kinds s first (at_moments timing [] rows) place)) x → IsMoment timing (times_of rows) x.time
event_moment timing kinds s first place rows x there =
    let is = item_row kinds s first place (in_time_order (at_moments timing [] rows)) x there in
    at_row timing [] rows is.row x.time
    (Contains-permutation (in_time_order (at_moments timing [] rows)) (at_moments timing [] rows) is.row
    (IsPermutation-sym (at_moments timing [] rows) (in_time_order (at_moments timing [] rows)) (in_order-permutation _ (at_moments timing [] rows))) is.there)
    is.time

-- ---- the events of a clock
abbrev pub tick_event : Timing → ℕ → ℕ → Event
tick_event timing i t = record { time = moment_at timing t 0; itag = record { 0 = i }; item = 0; value = pos 0 }

pub events_of_clock : (timing : Timing) (i : ℕ) (ticks : List ℕ) → events_of (items_of_ticks timing i ticks) ≡ map (tick_event timing i) ticks
events_of_clock timing i [] = refl
events_of_clock timing i (t ∷ ticks) = ap (λ l. tick_event timing i t ∷ l) (events_of_clock timing i ticks)
