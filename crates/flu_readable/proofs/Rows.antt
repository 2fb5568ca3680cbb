-- The items of the lists of a source with a file stand at the moments of its rows, and each row gives an item, where the source has no defect.
use Rattle.std.proofs.Common.{◌≡◌, ℕ, zero, suc, ◌+◌, ◌-◌, ◌*◌, ◌/◌, ◌<◌, ◌≤◌, min, max, inl, inr, Bool, true, false, Option, Some, None, List, [], ◌∷◌, ◌++◌}
use Rattle.std.proofs.Common.{cond, map, length, refl, sym, ap, subst, ◌∙◌, arith}
use Rattle.std.specs.Prelude.{◌==◌, Contains, IsPermutation, is_none, option_map, unwrap_or, if◌then◌else◌, ⊤}
use Rattle.std.specs.List.{cons_option, filter_map, position, AllByRecursion}
use Rattle.std.proofs.lemmas.Bool.Decides.{nat_tests}
use Rattle.std.proofs.lemmas.List.Sorted.{Contains-permutation, IsPermutation-sym}
use Rattle.flu_lemmas.specs.Counting.{times}
use Rattle.flu_lemmas.specs.Late.{is_less}
use Rattle.flu_lemmas.specs.Sorting.{put_in_order, in_order}
use Rattle.flu_lemmas.proofs.Containing.{contains_here, contains_later, contains_cases, contains_none, kept_later}
use Rattle.flu_lemmas.proofs.Sorting.{in_order-permutation}
use Rattle.std.proofs.lemmas.Option.{option_and_then_some}
use Rattle.flu_lemmas.proofs.Places.{position_below}
use Rattle.flu_model.specs.declared.events.Item.{Item}
use Rattle.flu_model.specs.declared.events.Tag.{Tag}
use Rattle.flu_model.specs.Listing.{tags_of_source}
use Rattle.flu_model.specs.Rules.{is_same_tag}
use Rattle.flu_model.specs.declared.events.Item.TheVariants.{Event as EventItem, Beat as BeatItem, End as EndItem}
use Rattle.flu_model.specs.declared.jobs.Kind.{Kind}
use Rattle.flu_model.specs.declared.jobs.Source.{Source}
use Rattle.flu_model.specs.declared.moments.Timing.{Timing}
use Rattle.flu_model.specs.Moments.{moment_at}
use Rattle.flu_rows.specs.declared.row.Fields.{Fields}
use Rattle.flu_rows.specs.declared.row.Row.{Row}
use Rattle.flu_rows.specs.declared.row.Row.TheVariants.{Event, Beat, End}
use Rattle.flu_rows.specs.declared.rows.Next.{Next}
use Rattle.flu_rows.specs.declared.rows.Next.TheVariants.{Row as RowNext, Bad, TooManyLines, Done}
use Rattle.flu_sending.specs.Lines.{time_of, times_of as item_times}
use Rattle.flu_streams.specs.Good.{event_of, item_in, items_at, at_moments, in_time_order, time_at}
use Rattle.flu_streams.specs.declared.faults.Why.{Why}
use Rattle.flu_streams.specs.declared.faults.Why.TheVariants.{UnknownTag, AfterEnd}
use Rattle.flu_streams.specs.Before.{first_some, with_before}
use Rattle.flu_streams.specs.Tags.{place_named, tag_named, given_to, width}
use Rattle.flu_streams.specs.Tests.{defect_of, fault_of, first_of, has_ended, items_of, rows_of, test_range, test_tag, time_in, times_of, where_true}
use Rattle.flu_readable.proofs.Ranks.{none_first, none_mapped}

-- ---- what is kept of a list
of_kept : {X Y : Type 0} (keep : X → Option Y) (xs : List X) (y : Y) → Contains (filter_map keep xs) y → (x : X) × Contains xs x × (keep x ≡ Some y)
of_kept keep [] y there = absurd (contains_none y there)
of_kept keep (x ∷ xs) y there = by (keep x) refl there (of_kept keep xs y)
  where
    by : (o : Option _) → keep x ≡ o → Contains (cons_option o (filter_map keep xs)) y
        → (Contains (filter_map keep xs) y → (z : _) × Contains xs z × (keep z ≡ Some y)) → (z : _) × Contains (x ∷ xs) z × (keep z ≡ Some y)
    by None is later more = let rest = more later in (rest.0, contains_later x rest.0 xs rest.1, rest.2)
    by (Some w) is here more =
        elim (contains_cases w y (filter_map keep xs) here) [
          | inl same ↦ (x, contains_here x xs, is ∙ ap Some same)
          | inr later ↦ (let rest = more later in (rest.0, contains_later x rest.0 xs rest.1, rest.2))
        ]

in_kept : {X Y : Type 0} (keep : X → Option Y) (xs : List X) (x : X) (y : Y) → Contains xs x → keep x ≡ Some y → Contains (filter_map keep xs) y
in_kept keep [] x y there is = absurd (contains_none x there)
in_kept keep (z ∷ xs) x y there is =
    elim (contains_cases z x xs there) [
      | inl same ↦ subst (λ o. Contains (cons_option o (filter_map keep xs)) y) (sym (ap keep same ∙ is)) (contains_here y (filter_map keep xs))
      | inr later ↦ kept_later (keep z) (filter_map keep xs) y (in_kept keep xs x y later is)
    ]

-- the times of rows in order of time
times_moved : (xs ys : List Row) (t : ℕ) → IsPermutation xs ys → Contains (times_of xs) t → Contains (times_of ys) t
times_moved xs ys t moved there =
    let own = of_kept time_in xs t there in in_kept time_in ys own.0 t (Contains-permutation xs ys own.0 moved own.1) own.2

-- ---- rows at their moments
-- a moment of one of these times
pub record IsMoment (timing : Timing) (times : List ℕ) (m : ℕ) : Type 0 where
  pub time : ℕ
  pub before : ℕ
  pub there : Contains times time
  pub at : m ≡ moment_at timing time before

moments_from : (timing : Timing) (earlier : List ℕ) (rows : List Row) (m : ℕ) → Contains (times_of (at_moments timing earlier rows)) m
    → IsMoment timing (times_of rows) m
moments_from timing earlier [] m there = absurd (contains_none m there)
moments_from timing earlier (Event time name key fields ∷ rows) m there =
    elim (contains_cases (moment_at timing time (times time earlier)) m (times_of (at_moments timing (earlier ++ time ∷ []) rows)) there) [
      | inl same ↦ record { time = time; before = times time earlier; there = contains_here time (times_of rows); at = sym same }
      | inr later ↦ (let is = moments_from timing (earlier ++ time ∷ []) rows m later in
          record { time = is.time; before = is.before; there = contains_later time is.time (times_of rows) is.there; at = is.at })
    ]
moments_from timing earlier (Beat time ∷ rows) m there =
    elim (contains_cases (moment_at timing time (times time earlier)) m (times_of (at_moments timing (earlier ++ time ∷ []) rows)) there) [
      | inl same ↦ record { time = time; before = times time earlier; there = contains_here time (times_of rows); at = sym same }
      | inr later ↦ (let is = moments_from timing (earlier ++ time ∷ []) rows m later in
          record { time = is.time; before = is.before; there = contains_later time is.time (times_of rows) is.there; at = is.at })
    ]
moments_from timing earlier (End ∷ rows) m there =
    let is = moments_from timing (earlier ++ []) rows m there in record { time = is.time; before = is.before; there = is.there; at = is.at }

moments_to : (timing : Timing) (earlier : List ℕ) (rows : List Row) (t : ℕ) → Contains (times_of rows) t
    → (before : ℕ) × Contains (times_of (at_moments timing earlier rows)) (moment_at timing t before)
moments_to timing earlier [] t there = absurd (contains_none t there)
moments_to timing earlier (Event time name key fields ∷ rows) t there =
    let rest = times_of (at_moments timing (earlier ++ time ∷ []) rows) in
    elim (contains_cases time t (times_of rows) there) [
      | inl same ↦ (
        times time earlier,
        subst (λ m. Contains (moment_at timing time (times time earlier) ∷ rest) m) (ap (λ u. moment_at timing u (times time earlier)) same)
            (contains_here (moment_at timing time (times time earlier)) rest),
      )
      | inr later ↦ (let is = moments_to timing (earlier ++ time ∷ []) rows t later in
          (is.0, contains_later (moment_at timing time (times time earlier)) (moment_at timing t is.0) rest is.1))
    ]
moments_to timing earlier (Beat time ∷ rows) t there =
    let rest = times_of (at_moments timing (earlier ++ time ∷ []) rows) in
    elim (contains_cases time t (times_of rows) there) [
      | inl same ↦ (
        times time earlier,
        subst (λ m. Contains (moment_at timing time (times time earlier) ∷ rest) m) (ap (λ u. moment_at timing u (times time earlier)) same)
            (contains_here (moment_at timing time (times time earlier)) rest),
      )
      | inr later ↦ (let is = moments_to timing (earlier ++ time ∷ []) rows t later in
          (is.0, contains_later (moment_at timing time (times time earlier)) (moment_at timing t is.0) rest is.1))
    ]
moments_to timing earlier (End ∷ rows) t there = moments_to timing (earlier ++ []) rows t there

-- what holds of each holds of each in order
put_all : {X : Type 0} (P : X → Type 0) (before : X → X → Bool) (x : X) (ys : List X) → P x → AllByRecursion P ys → AllByRecursion P (put_in_order before x ys)
put_all P before x [] px all = (px, tt)
put_all P before x (y ∷ ys) px all =
    elim (before x y) as (λ b. AllByRecursion P (cond b (x ∷ y ∷ ys) (y ∷ put_in_order before x ys))) [
      | true ↦ (px, all)
      | false ↦ (all.0, put_all P before x ys px all.1)
    ]

pub all_in_order : {X : Type 0} (P : X → Type 0) (before : X → X → Bool) (xs : List X) → AllByRecursion P xs → AllByRecursion P (in_order before xs)
all_in_order P before [] all = tt
all_in_order P before (x ∷ xs) all = put_all P before x (in_order before xs) all.0 (all_in_order P before xs all.1)

-- ---- rows without a defect
module _ (kinds : List Kind) (s : Source) where
  -- the source lists the tag of an event
  abbrev pub IsListed : Row → Type 0
  IsListed (Event time name key fields) = (n : ℕ) × (place_named kinds s name key ≡ Some n) × (n < width s)
  IsListed (Beat time) = ⊤
  IsListed End = ⊤

  row_listed : (row : Row) → test_tag kinds s row ≡ None → IsListed row
  row_listed (Event time name key fields) none = by (place_named kinds s name key) refl none
    where
      by : (o : Option ℕ) → place_named kinds s name key ≡ o → where_true (is_none o) UnknownTag ≡ None → IsListed (Event time name key fields)
      by None is none = absurd cc
      by (Some n) is none = (
        n,
        is,
        option_and_then_some (λ (t : Tag). position (is_same_tag t) (tags_of_source s)) (tag_named kinds name key) n is
            (λ t named there. position_below (is_same_tag t) (tags_of_source s) n there),
      )
  row_listed (Beat time) none = tt
  row_listed End none = tt

  module _ (timing : Timing) where
    passes : (ended : Bool) (earlier : List ℕ) (held : ℕ) (row : Row) → fault_of timing kinds s ended earlier held row ≡ None → IsListed row
    passes ended earlier held row none =
        let first = (none_first (where_true ended AfterEnd) _ none).1 in
        row_listed row (none_first (test_tag kinds s row) _ (none_first (test_range timing row) _ first).1).0

    lines_listed : (held : ℕ) (done lines : List Next) → first_some (λ e. defect_of timing kinds s held e.0 e.1) (with_before done lines) ≡ None
        → AllByRecursion IsListed (rows_of lines)
    lines_listed held done [] none = tt
    lines_listed held done (RowNext line row ∷ lines) none =
        let parts = none_first (defect_of timing kinds s held done (RowNext line row)) _ none in (
          passes (has_ended (rows_of done)) (times_of (rows_of done)) (held + items_of (width s) (rows_of done)) row
              (none_mapped (λ (why : Why). (line, why)) _ parts.0),
          lines_listed held (done ++ RowNext line row ∷ []) lines parts.1,
        )
    lines_listed held done (Bad line ∷ lines) none = absurd cc
    lines_listed held done (TooManyLines ∷ lines) none = absurd cc
    lines_listed held done (Done n ∷ lines) none =
        lines_listed held (done ++ Done n ∷ []) lines (none_first (defect_of timing kinds s held done (Done n)) _ none).1

    listed_at : (earlier : List ℕ) (rows : List Row) → AllByRecursion IsListed rows → AllByRecursion IsListed (at_moments timing earlier rows)
    listed_at earlier [] all = tt
    listed_at earlier (Event time name key fields ∷ rows) all = (all.0, listed_at (earlier ++ time ∷ []) rows all.1)
    listed_at earlier (Beat time ∷ rows) all = (tt, listed_at (earlier ++ time ∷ []) rows all.1)
    listed_at earlier (End ∷ rows) all = (tt, listed_at (earlier ++ []) rows all.1)

    -- THE ROWS OF A FILE WITHOUT A DEFECT name tags that the source lists
    pub rows_listed : (held : ℕ) (read : List Next) → first_of timing kinds s held read ≡ None
        → AllByRecursion IsListed (in_time_order (at_moments timing [] (rows_of read)))
    rows_listed held read none =
        all_in_order IsListed (is_less time_at) (at_moments timing [] (rows_of read)) (listed_at [] (rows_of read) (lines_listed held [] read none))

-- ---- the items of a place
module _ (kinds : List Kind) (s : Source) (first : ℕ) where
  abbrev items : ℕ → List Row → List Item
  items place rows = filter_map (item_in kinds s first place) rows ++ EndItem ∷ []

  abbrev own_item : ℕ → ℕ → List ℕ → Option ℕ → Fields → Item
  own_item place time name key fields = EventItem (event_of time (first + place) (given_to kinds name fields))

  items_from : (place : ℕ) (rows : List Row) (m : ℕ) → Contains (item_times (items place rows)) m → Contains (times_of rows) m
  items_from place [] m there = there
  items_from place (Event time name key fields ∷ rows) m there =
      by (unwrap_or (option_map (λ n. n == place) (place_named kinds s name key)) false) there (items_from place rows m)
    where
      by : (b : Bool)
          → Contains (item_times (cons_option (if b then Some (own_item place time name key fields) else None) (filter_map (item_in kinds s first place) rows)
          ++ EndItem ∷ [])) m
          → (Contains (item_times (items place rows)) m → Contains (times_of rows) m) → Contains (time ∷ times_of rows) m
      by true here more =
          elim (contains_cases time m (item_times (items place rows)) here) [
            | inl same ↦ subst (Contains (time ∷ times_of rows)) same (contains_here time (times_of rows))
            | inr later ↦ contains_later time m (times_of rows) (more later)
          ]
      by false later more = contains_later time m (times_of rows) (more later)
  items_from place (Beat time ∷ rows) m there =
      elim (contains_cases time m (item_times (items place rows)) there) [
        | inl same ↦ subst (Contains (time ∷ times_of rows)) same (contains_here time (times_of rows))
        | inr later ↦ contains_later time m (times_of rows) (items_from place rows m later)
      ]
  items_from place (End ∷ rows) m there = items_from place rows m there

  -- an item before others
  item_later : (o : Option Item) (xs : List Item) (m : ℕ) → Contains (item_times (xs ++ EndItem ∷ [])) m
      → Contains (item_times (cons_option o xs ++ EndItem ∷ [])) m
  item_later None xs m there = there
  item_later (Some x) xs m there = kept_later (time_of x) (item_times (xs ++ EndItem ∷ [])) m there

  event_there : (time : ℕ) (name : List ℕ) (key : Option ℕ) (fields : Fields) (rows : List Row) (place : ℕ) → place_named kinds s name key ≡ Some place
      → Contains (item_times (items place (Event time name key fields ∷ rows))) time
  event_there time name key fields rows place named =
      let here : unwrap_or (option_map (λ n. n == place) (place_named kinds s name key)) false ≡ true =
      ap (λ o. unwrap_or (option_map (λ n. n == place) o) false) named ∙ same_number place in
      subst
      (λ b. Contains (item_times (cons_option (if b then Some (own_item place time name key fields) else None) (filter_map (item_in kinds s first place) rows)
      ++ EndItem ∷ [])) time) (sym here) (contains_here time (item_times (items place rows)))
    where
      same_number : (n : ℕ) → (n == n) ≡ true
      same_number n = grind (arith, nat_tests)

  items_to : (rows : List Row) (t : ℕ) → 0 < width s → AllByRecursion (IsListed kinds s) rows → Contains (times_of rows) t
      → (place : ℕ) × (place < width s) × Contains (item_times (items place rows)) t
  items_to [] t some listed there = absurd (contains_none t there)
  items_to (Event time name key fields ∷ rows) t some listed there =
      elim (contains_cases time t (times_of rows) there) [
        | inl same ↦ (
          listed.0.0,
          listed.0.2,
          subst (Contains (item_times (items listed.0.0 (Event time name key fields ∷ rows)))) same
              (event_there time name key fields rows listed.0.0 listed.0.1),
        )
        | inr later ↦ (let is = items_to rows t some listed.1 later in (
          is.0,
          is.1,
          item_later (item_in kinds s first is.0 (Event time name key fields)) (filter_map (item_in kinds s first is.0) rows) t is.2,
        ))
      ]
  items_to (Beat time ∷ rows) t some listed there =
      elim (contains_cases time t (times_of rows) there) [
        | inl same ↦ (0, some, subst (Contains (item_times (items 0 (Beat time ∷ rows)))) same (contains_here time (item_times (items 0 rows))))
        | inr later ↦ (let is = items_to rows t some listed.1 later in
            (is.0, is.1, item_later (Some (BeatItem time)) (filter_map (item_in kinds s first is.0) rows) t is.2))
      ]
  items_to (End ∷ rows) t some listed there = items_to rows t some listed.1 there

  -- THE ITEMS OF A PLACE stand at moments of rows
  pub item_stands : (timing : Timing) (rows : List Row) (place m : ℕ) → Contains (item_times (items_at kinds s first (at_moments timing [] rows) place)) m
      → IsMoment timing (times_of rows) m
  item_stands timing rows place m there =
      let placed = at_moments timing [] rows in
      moments_from timing [] rows m
      (times_moved (in_time_order placed) placed m (IsPermutation-sym placed (in_time_order placed) (in_order-permutation (is_less time_at) placed))
      (items_from place (in_time_order placed) m there))

  -- AND EACH ROW GIVES AN ITEM of some place
  pub row_gives : (timing : Timing) (rows : List Row) (t : ℕ) → 0 < width s → AllByRecursion (IsListed kinds s) (in_time_order (at_moments timing [] rows))
      → Contains (times_of rows) t
      → (before : ℕ) × ((place : ℕ) × (place < width s)
      × Contains (item_times (items_at kinds s first (at_moments timing [] rows) place)) (moment_at timing t before))
  row_gives timing rows t some listed there =
      let placed = at_moments timing [] rows in
      let own = moments_to timing [] rows t there in (
        own.0,
        items_to (in_time_order placed) (moment_at timing t own.0) some listed
            (times_moved placed (in_time_order placed) (moment_at timing t own.0) (in_order-permutation (is_less time_at) placed) own.1),
      )
