-- What is held of a source behind the lines that were read of it.
use Rattle.std.proofs.Common.{◌≡◌, ℕ, suc, ◌+◌, ◌-◌, ◌/◌, ◌<◌, ◌≤◌, max, min, Bool, true, false, cond, ◌||◌, ◌&&◌, List, [], ◌∷◌, ◌++◌, length, map, Option}
use Rattle.std.proofs.Common.{Some, None, refl, sym, ap, subst, ◌∙◌, arith}
use Rattle.std.specs.Prelude.{◌==◌, not, nat_lt, nat_le, unwrap_or, option_map}
use Rattle.std.specs.List.{filter, list_all}
use Rattle.std.specs.Option.{option_map_or, option_to_list}
use Rattle.std.proofs.lemmas.Bool.Decides.{nat_tests}
use Rattle.std.proofs.lemmas.List.{append-nil, length-map}
use Rattle.std.proofs.lemmas.List.Elements.{filter-append}
use Rattle.std.proofs.lemmas.List.Sorted.{IsPermutation-map, length_permutation}
use Rattle.std.proofs.lemmas.Nat.{div_below}
use Rattle.flu_lemmas.specs.Counting.{times}
use Rattle.flu_lemmas.specs.Late.{is_less, put_late}
use Rattle.flu_lemmas.proofs.Counting.{times-cons, times_of_other, times_moved}
use Rattle.flu_lemmas.proofs.Sorting.{in_order-permutation}
use Rattle.flu_lemmas.proofs.Tests.{not_both}
use Rattle.flu_model.specs.declared.events.Item.{Item}
use Rattle.flu_model.specs.declared.jobs.Kind.{Kind}
use Rattle.flu_model.specs.declared.jobs.Source.{Source}
use Rattle.flu_model.specs.declared.moments.Timing.{Timing}
use Rattle.flu_model.specs.Moments.{moment_at, last_moment, IsTiming}
use Rattle.flu_rows.specs.declared.row.Row.{Row}
use Rattle.flu_rows.specs.declared.row.Row.TheVariants.{Event, Beat, End}
use Rattle.flu_rows.specs.declared.rows.Next.{Next}
use Rattle.flu_rows.specs.declared.rows.Next.TheVariants.{Row as RowNext, Bad, TooManyLines, Done}
use Rattle.flu_rows.specs.Reading.{Place}
use Rattle.flu_streams.specs.declared.border.Border.{Border}
use Rattle.flu_streams.specs.declared.border.Border.TheVariants.{At, Closed}
use Rattle.flu_streams.specs.declared.faults.Why.{Why}
use Rattle.flu_streams.specs.declared.faults.Why.TheVariants.{AfterEnd, Disordered}
use Rattle.flu_streams.specs.declared.inlet.Inlet.{Inlet}
use Rattle.flu_streams.specs.Before.{first_some, or_else}
use Rattle.flu_streams.specs.Good.{with_time, time_at, at_moments, in_time_order}
use Rattle.flu_outside.specs.Outside.{Contents}
use Rattle.flu_streams.specs.Holding.{HeldSource, IsHeldBehind, IsUpTo, item_of, still}
use Rattle.flu_streams.specs.Lists.{item_time}
use Rattle.flu_streams.specs.LoopHeld.{source_of, count_to, enough_of, enough_in, without, IsShort, CatchesUp, IsCaughtUp, Stays, Drops, Comes, test_late}
use Rattle.flu_streams.specs.LoopHeld.{are_enough, test_held, tests_behind, fault_behind, put_timed, later_of, sooner_of, PutsIn, IsWellAt, taken_by}
use Rattle.flu_streams.specs.LoopMoments.{border_moment, own_times, at_moment}
use Rattle.flu_streams.specs.LoopStop.{defect_behind}
use Rattle.flu_streams.specs.Rounds.{row_fault, line_defect, settled, settled_time, is_above, is_between, rows_between, is_enough}
use Rattle.flu_streams.specs.Tags.{width}
use Rattle.flu_streams.specs.Tests.{rows_of, has_ended, is_end, time_in, items_in, times_of, least, greatest, where_true, margin, same_time, test_range}
use Rattle.flu_streams.specs.Tests.{test_tag, test_fields, test_item, test_behind, test_times, test_time}
use Rattle.flu_streams.proofs.Cutting.{not_not, later_is, all_kept}
use Rattle.flu_streams.proofs.Counted.{fault_parts}
use Rattle.flu_streams.proofs.Counting.{enough_is, none_enough, all_late}
use Rattle.flu_streams.proofs.Moments.{time_of-moment, is_above-moment, at_moments-append, between_moments}
use Rattle.flu_streams.proofs.RoundLaws.{or_else-none, defect_in-more, not_late, settled_is, settled_some, line_settles, Exceeds, exceeds_moments, parts_at}
use Rattle.flu_streams.proofs.RoundLaws.{early_between, late_between, none_between, kept_first, kept_second}
use Rattle.flu_streams.proofs.Taken.{greatest-push, least-push, times_more, ended_more, rows_more, item_time-of, items_late, IsNoRow, no_row_more}

-- ---- items by their times
filter_mapped : {X Y : Type 0} (p : Y → Bool) (f : X → Y) (xs : List X) → filter p (map f xs) ≡ map f (filter (λ x. p (f x)) xs)
filter_mapped p f [] = refl
filter_mapped p f (x ∷ xs) =
    elim (p (f x)) as (λ b. cond b (f x ∷ filter p (map f xs)) (filter p (map f xs))
    ≡ map f (cond b (x ∷ filter (λ y. p (f y)) xs) (filter (λ y. p (f y)) xs))) [
      | true ↦ ap (λ l. f x ∷ l) (filter_mapped p f xs)
      | false ↦ filter_mapped p f xs
    ]

pub kept_true : {X : Type 0} (xs : List X) → filter (λ x. true) xs ≡ xs
kept_true [] = refl
kept_true (x ∷ xs) = ap (λ l. x ∷ l) (kept_true xs)

items_by_time : (g : ℕ → Bool) (kinds : List Kind) (s : Source) (first : ℕ) (rows : List Row)
    → filter (λ (item : Item). g (item_time item)) (map (item_of kinds s first) rows) ≡ map (item_of kinds s first)
    (filter (λ (row : Row). g (time_at row)) rows)
items_by_time g kinds s first rows =
    filter_mapped (λ (item : Item). g (item_time item)) (item_of kinds s first) rows
    ∙ (λ i. map (item_of kinds s first) (filter (λ (row : Row). g (item_time-of kinds s first row i)) rows))

order_early : (t : ℕ) (rows : List Row)
    → filter (λ (row : Row). nat_le (time_at row) t) (in_time_order rows) ≡ in_time_order (filter (λ (row : Row). nat_le (time_at row) t) rows)
order_early t rows =
    let parts = parts_at t rows in
    let f = λ (row : Row). nat_le (time_at row) t in
    ap (filter f) parts.order ∙ kept_first f (in_time_order (filter f rows))
    (in_time_order (filter (λ (row : Row). not (nat_le (time_at row) t)) rows)) parts.early parts.late

order_late : (t : ℕ) (rows : List Row)
    → filter (λ (row : Row). not (nat_le (time_at row) t)) (in_time_order rows) ≡ in_time_order (filter (λ (row : Row). not (nat_le (time_at row) t)) rows)
order_late t rows =
    let parts = parts_at t rows in
    let f = λ (row : Row). nat_le (time_at row) t in
    let g = λ (row : Row). not (nat_le (time_at row) t) in
    let front = in_time_order (filter f rows) in
    let twice : list_all (λ (row : Row). not (g row)) front ≡ true = (λ i. list_all (λ (row : Row). not_not (f row) i) front) ∙ parts.early in
    ap (filter g) parts.order ∙ kept_second g front (in_time_order (filter g rows)) twice parts.late

-- the items up to a border, and the later ones
pub taken_items : (kinds : List Kind) (s : Source) (first : ℕ) (above : Option ℕ) (end : Border) (rows : List Row) (items : List Item)
    → items ≡ map (item_of kinds s first) (in_time_order (rows_between above Closed rows))
    → taken_by end items ≡ map (item_of kinds s first) (in_time_order (rows_between above end rows))
taken_items kinds s first above Closed rows items is = kept_true items ∙ is
taken_items kinds s first above (At t) rows items is =
    ap (taken_by (At t)) is
    ∙ items_by_time (λ n. nat_le n t) kinds s first (in_time_order (rows_between above Closed rows))
    ∙ ap (map (item_of kinds s first)) (order_early t (rows_between above Closed rows) ∙ ap in_time_order (early_between above t Closed rows (λ n e. refl)))

pub left_items : (kinds : List Kind) (s : Source) (first : ℕ) (above : Option ℕ) (t : ℕ) (rows : List Row) (items : List Item) → Exceeds t above
    → items ≡ map (item_of kinds s first) (in_time_order (rows_between above Closed rows))
    → filter (λ (item : Item). nat_lt t (item_time item)) items ≡ map (item_of kinds s first) (in_time_order (rows_between (Some t) Closed rows))
left_items kinds s first above t rows items exceeds is =
    ap (filter (λ (item : Item). nat_lt t (item_time item))) is
    ∙ (λ i. filter (λ (item : Item). later_is t (item_time item) i) (map (item_of kinds s first) (in_time_order (rows_between above Closed rows))))
    ∙ items_by_time (λ n. not (nat_le n t)) kinds s first (in_time_order (rows_between above Closed rows))
    ∙ ap (map (item_of kinds s first)) (order_late t (rows_between above Closed rows) ∙ ap in_time_order (late_between above t Closed rows exceeds))

-- ---- whether the rows are enough
pub count_rows : (kinds : List Kind) (s : Source) (first : ℕ) (above : Option ℕ) (u : ℕ) (rows : List Row) (items : List Item)
    → items ≡ map (item_of kinds s first) (in_time_order (rows_between above Closed rows)) → count_to u items ≡ length (rows_between above (At u) rows)
count_rows kinds s first above u rows items is =
    ap length (taken_items kinds s first above (At u) rows items is) ∙ length-map (in_time_order (rows_between above (At u) rows)) (item_of kinds s first)
    ∙ length_permutation (rows_between above (At u) rows) (in_time_order (rows_between above (At u) rows))
    (in_order-permutation (is_less time_at) (rows_between above (At u) rows))

at_moments-length : (timing : Timing) (earlier : List ℕ) (rows : List Row) → length (at_moments timing earlier rows) ≡ length rows
at_moments-length timing earlier [] = refl
at_moments-length timing earlier (row ∷ rows) = ap suc (at_moments-length timing (earlier ++ times_of (row ∷ [])) rows)

-- the rows at their moments above a border
rows_above : (timing : Timing) (fits : IsTiming timing) (kinds : List Kind) (s : Source) (first : ℕ) (low : Option ℕ) (rows : List Row)
    → map (item_of kinds s first) (in_time_order (at_moments timing [] (rows_between low Closed rows)))
    ≡ map (item_of kinds s first) (in_time_order (rows_between (border_moment timing low) Closed (at_moments timing [] rows)))
rows_above timing fits kinds s first low rows = ap (λ own. map (item_of kinds s first) (in_time_order own)) (between_moments timing fits low Closed rows)

-- the items that are held where the reading has come to the border
pub items_caught : (timing : Timing) (fits : IsTiming timing) (kinds : List Kind) (s : Source) (first : ℕ) (above : Option ℕ) (lines : List Next)
    (h : HeldSource) → IsHeldBehind timing kinds first s above lines h → h.goal ≡ None
    → h.items ≡ map (item_of kinds s first) (in_time_order (rows_between (border_moment timing above) Closed (at_moments timing [] (rows_of lines))))
items_caught timing fits kinds s first above lines h is none =
    is.items
    ∙ ap (λ (low : Option ℕ). map (item_of kinds s first) (in_time_order (at_moments timing [] (rows_between low Closed (rows_of lines))))) (is.caught none)
    ∙ rows_above timing fits kinds s first above (rows_of lines)

-- as many of them come up to the last moment of a time as there are rows up to it
count_held : (timing : Timing) (fits : IsTiming timing) (kinds : List Kind) (s : Source) (first : ℕ) (above : Option ℕ) (u : ℕ) (lines : List Next)
    (h : HeldSource) → IsHeldBehind timing kinds first s above lines h → h.goal ≡ None
    → count_to (last_moment timing u) h.items ≡ length (rows_between above (At u) (rows_of lines))
count_held timing fits kinds s first above u lines h is none =
    count_rows kinds s first (border_moment timing above) (last_moment timing u) (at_moments timing [] (rows_of lines)) h.items
    (items_caught timing fits kinds s first above lines h is none)
    ∙ ap length (sym (between_moments timing fits above (At u) (rows_of lines)))
    ∙ at_moments-length timing [] (rows_between above (At u) (rows_of lines))

settled_held : (timing : Timing) (kinds : List Kind) (s : Source) (first : ℕ) (above : Option ℕ) (lines : List Next) (h : HeldSource)
    → IsHeldBehind timing kinds first s above lines h → settled_time timing s lines ≡ settled (margin timing s.slack) h.last
settled_held timing kinds s first above lines h is = ap (settled (margin timing s.slack)) (sym is.last)

-- a time is found only where the reading has come to the border
pub without_some : (goal found : Option ℕ) (u : ℕ) → without goal found ≡ Some u → (goal ≡ None) × (found ≡ Some u)
without_some None found u e = (refl, e)
without_some (Some g) found u e = absurd cc

-- whether so many rows are settled, by the settled time
abbrev enough_by : ℕ → Option ℕ → List Next → Option ℕ → Bool
enough_by rows above lines found = nat_le rows (option_map_or (λ v. length (rows_between above (At v) (rows_of lines))) found 0)

pub enough_held : (timing : Timing) (fits : IsTiming timing) (kinds : List Kind) (s : Source) (first rows u : ℕ) (above : Option ℕ) (lines : List Next)
    (h : HeldSource) → IsHeldBehind timing kinds first s above lines h
    → enough_in timing rows s.slack h ≡ Some u → (is_enough timing rows above s lines ≡ true) × (settled_time timing s lines ≡ Some u)
enough_held timing fits kinds s first rows u above lines h is found =
    let caught = without_some h.goal (enough_of timing rows s.slack h.last h.items) u found in
    let k = enough_is timing rows s.slack u h.last h.items caught.1 in
    let at : settled_time timing s lines ≡ Some u = settled_held timing kinds s first above lines h is ∙ k.settles in
    let count = count_held timing fits kinds s first above u lines h is caught.0 in
    (ap (enough_by rows above lines) at ∙ ap (nat_le rows) (sym count) ∙ le_is rows (count_to (last_moment timing u) h.items) k.count, at)
  where
    le_is : (a b : ℕ) → a ≤ b → nat_le a b ≡ true
    le_is a b le = grind (arith, nat_tests)

not_enough_held : (timing : Timing) (fits : IsTiming timing) (kinds : List Kind) (s : Source) (first rows : ℕ) (above : Option ℕ) (lines : List Next)
    (h : HeldSource) → 1 ≤ rows → IsHeldBehind timing kinds first s above lines h
    → IsShort timing (Some rows) s h → is_enough timing rows above s lines ≡ false
not_enough_held timing fits kinds s first rows above lines h one is short = by_goal h.goal refl
  where
    lt_is : (a b : ℕ) → b < a → nat_le a b ≡ false
    lt_is a b lt = grind (arith, nat_tests)

    same : settled_time timing s lines ≡ settled (margin timing s.slack) h.last
    same = settled_held timing kinds s first above lines h is

    -- nothing is both above the border and settled
    before_goal : (g : ℕ) (o : Option ℕ) → h.goal ≡ Some g → settled (margin timing s.slack) h.last ≡ o → is_enough timing rows above s lines ≡ false
    before_goal g None is_goal at = ap (enough_by rows above lines) (same ∙ at) ∙ lt_is rows 0 (omega (arith, one))
    before_goal g (Some u) is_goal at =
        let lt : u < g = short.1 g u is_goal at in
        ap (enough_by rows above lines) (same ∙ at)
        ∙ ap (λ b. nat_le rows (length (rows_between b (At u) (rows_of lines)))) (is.goal g is_goal)
        ∙ ap (λ (l : List Row). nat_le rows (length l)) (none_between g u (rows_of lines) (omega (arith, lt)))
        ∙ lt_is rows 0 (omega (arith, one))

    by_time : h.goal ≡ None → enough_of timing rows s.slack h.last h.items ≡ None → (o : Option ℕ) → settled (margin timing s.slack) h.last ≡ o
        → is_enough timing rows above s lines ≡ false
    by_time none e None at = ap (enough_by rows above lines) (same ∙ at) ∙ lt_is rows 0 (omega (arith, one))
    by_time none e (Some u) at =
        let count = count_held timing fits kinds s first above u lines h is none in
        let few = none_enough timing rows s.slack u h.last h.items e at in
        ap (enough_by rows above lines) (same ∙ at) ∙ ap (nat_le rows) (sym count) ∙ lt_is rows (count_to (last_moment timing u) h.items) few

    by_goal : (goal : Option ℕ) → h.goal ≡ goal → is_enough timing rows above s lines ≡ false
    by_goal None e =
        by_time e (ap (λ g. without g (enough_of timing rows s.slack h.last h.items)) (sym e) ∙ short.0) (settled (margin timing s.slack) h.last) refl
    by_goal (Some g) e = before_goal g (settled (margin timing s.slack) h.last) e refl

pub not_enough : (timing : Timing) (fits : IsTiming timing) (kinds : List Kind) (s : Source) (first : ℕ) (rows above : Option ℕ) (lines : List Next)
    (h : HeldSource) → 1 ≤ unwrap_or rows 1
    → IsHeldBehind timing kinds first s above lines h → IsShort timing rows s h → are_enough timing rows above s lines ≡ false
not_enough timing fits kinds s first None above lines h one is short = refl
not_enough timing fits kinds s first (Some rows) above lines h one is short = not_enough_held timing fits kinds s first rows above lines h one is short

-- what is no row changes nothing
pub enough_still : (timing : Timing) (rows above : Option ℕ) (s : Source) (lines : List Next) (next : Next) → IsNoRow next
    → are_enough timing rows above s (lines ++ next ∷ []) ≡ are_enough timing rows above s lines
enough_still timing None above s lines next other = refl
enough_still timing (Some rows) above s lines next other =
    ap (λ (r : List Row). nat_le rows (option_map_or (λ u. length (rows_between above (At u) r)) (settled (margin timing s.slack) (greatest (times_of r))) 0))
    (no_row_more lines next other)

-- ---- the test of a time
-- a border is settled
abbrev pub IsSettled : ℕ → Option ℕ → Option ℕ → Type 0
IsSettled slack above last = (t : ℕ) → above ≡ Some t → (u : ℕ) × (settled slack last ≡ Some u) × (t ≤ u)

-- a time that is above the greatest one less the slack is above the border
above_settled : (slack time : ℕ) (above last : Option ℕ) → IsSettled slack above last → ((l : ℕ) → last ≡ Some l → l < time + slack)
    → is_above above time ≡ true
above_settled slack time None last at later = refl
above_settled slack time (Some b) None at later = absurd (none_some (at b refl).0 (at b refl).1)
  where
    none_some : (u : ℕ) → settled slack None ≡ Some u → ⊥
    none_some u e = cc
above_settled slack time (Some b) (Some l) at later =
    let k = at b refl in
    let is = settled_is slack l k.0 k.1 in
    let lt = later l refl in
    is_lt b time (omega (arith, lt, is.0, is.1, k.2))
  where
    is_lt : (a c : ℕ) → a < c → nat_lt a c ≡ true
    is_lt a c lt = grind (arith, nat_tests)

passes_later : (timing : Timing) (slack time : ℕ) (times : List ℕ) (last : Option ℕ) → test_behind timing slack times last time ≡ None
    → (l : ℕ) → last ≡ Some l → l < time + margin timing slack
passes_later timing slack time times None passes l e = absurd cc
passes_later timing slack time times (Some m) passes l e =
    let same : m ≡ l = cc in
    let lt = not_late timing slack times time m passes in
    subst (λ n. n < time + margin timing slack) same lt

pub passes_above : (timing : Timing) (slack time : ℕ) (times : List ℕ) (above last : Option ℕ) → IsSettled (margin timing slack) above last
    → test_behind timing slack times last time ≡ None
    → is_above above time ≡ true
passes_above timing slack time times above last at passes =
    above_settled (margin timing slack) time above last at (passes_later timing slack time times last passes)

-- a time above the border is as often among the rows that were read as it is among those above the border
apart : (a time : ℕ) (above : Option ℕ) → is_above above time ≡ true → is_above above a ≡ false → a ≡ time → ⊥
apart a time above e f same = never (sym e ∙ ap (is_above above) (sym same) ∙ f)
  where
    never : true ≡ false → ⊥
    never e = cc

times_step : (time a : ℕ) (row : Row) (above : Option ℕ) (rest : List ℕ) (rows : List Row) → time_at row ≡ a → is_above above time ≡ true
    → times time rest ≡ times time (map time_at rows)
    → times time (a ∷ rest) ≡ times time (map time_at (cond (is_above above a && true) (row ∷ rows) rows))
times_step time a row above rest rows at e more = by_test (is_above above a) refl
  where
    by_test : (b : Bool) → is_above above a ≡ b
        → times time (a ∷ rest) ≡ times time (map time_at (cond (is_above above a && true) (row ∷ rows) rows))
    by_test true here =
        times-cons time a rest ∙ ap (λ n. cond (a == time) 1 0 + n) more ∙ sym (times-cons time a (map time_at rows))
        ∙ ap (λ t. times time (t ∷ map time_at rows)) (sym at)
        ∙ ap (λ b. times time (map time_at (cond (b && true) (row ∷ rows) rows))) (sym here)
    by_test false gone =
        times_of_other time a rest (apart a time above e gone) ∙ more
        ∙ ap (λ b. times time (map time_at (cond (b && true) (row ∷ rows) rows))) (sym gone)

times_between : (time : ℕ) (above : Option ℕ) (rows : List Row) → is_above above time ≡ true
    → times time (times_of rows) ≡ times time (map time_at (rows_between above Closed rows))
times_between time above [] e = refl
times_between time above (Event t name key fields ∷ rows) e =
    times_step time t (Event t name key fields) above (times_of rows) (rows_between above Closed rows) refl e (times_between time above rows e)
times_between time above (Beat t ∷ rows) e =
    times_step time t (Beat t) above (times_of rows) (rows_between above Closed rows) refl e (times_between time above rows e)
times_between time above (End ∷ rows) e = times_between time above rows e

-- only rows with a time are above a border
times_kept : (above : Option ℕ) (rows : List Row) → times_of (rows_between above Closed rows) ≡ map time_at (rows_between above Closed rows)
times_kept above [] = refl
times_kept above (Event t name key fields ∷ rows) =
    elim (is_above above t) as (λ b. times_of (cond (b && true) (Event t name key fields ∷ rows_between above Closed rows) (rows_between above Closed rows))
    ≡ map time_at (cond (b && true) (Event t name key fields ∷ rows_between above Closed rows) (rows_between above Closed rows))) [
      | true ↦ ap (λ l. t ∷ l) (times_kept above rows)
      | false ↦ times_kept above rows
    ]
times_kept above (Beat t ∷ rows) =
    elim (is_above above t) as (λ b. times_of (cond (b && true) (Beat t ∷ rows_between above Closed rows) (rows_between above Closed rows))
    ≡ map time_at (cond (b && true) (Beat t ∷ rows_between above Closed rows) (rows_between above Closed rows))) [
      | true ↦ ap (λ l. t ∷ l) (times_kept above rows)
      | false ↦ times_kept above rows
    ]
times_kept above (End ∷ rows) = times_kept above rows

-- the time of a row is that of its moment
time_moved : (timing : Timing) (fits : IsTiming timing) (before : ℕ) (row : Row)
    → time_at (with_time (moment_at timing (time_at row) before) row) / timing.scale ≡ time_at row
time_moved timing fits before (Event time name key fields) = time_of-moment timing fits time before
time_moved timing fits before (Beat time) = time_of-moment timing fits time before
time_moved timing fits before End =
    let some = fits.some in
    let within = fits.within in
    let below = div_below 0 timing.scale 1 (omega arith) (omega arith) in
    omega (arith, below)

times_moments : (timing : Timing) (fits : IsTiming timing) (earlier : List ℕ) (rows : List Row)
    → map (λ (row : Row). time_at row / timing.scale) (at_moments timing earlier rows) ≡ map time_at rows
times_moments timing fits earlier [] = refl
times_moments timing fits earlier (row ∷ rows) =
    λ i. time_moved timing fits (times (time_at row) earlier) row i ∷ times_moments timing fits (earlier ++ times_of (row ∷ [])) rows i

own_times_of : (timing : Timing) (kinds : List Kind) (s : Source) (first : ℕ) (rows : List Row)
    → own_times timing (map (item_of kinds s first) rows) ≡ map (λ (row : Row). time_at row / timing.scale) rows
own_times_of timing kinds s first [] = refl
own_times_of timing kinds s first (row ∷ rows) = λ i. item_time-of kinds s first row i / timing.scale ∷ own_times_of timing kinds s first rows i

-- a time is as often among the rows above the border as among the items that are held
times_items : (timing : Timing) (fits : IsTiming timing) (kinds : List Kind) (s : Source) (first time : ℕ) (own : List Row) (items : List Item)
    → items ≡ map (item_of kinds s first) (in_time_order (at_moments timing [] own))
    → times time (map time_at own) ≡ times time (own_times timing items)
times_items timing fits kinds s first time own items is =
    let all = at_moments timing [] own in
    let when = λ (row : Row). time_at row / timing.scale in
    ap (times time) (sym (times_moments timing fits [] own))
    ∙ sym (times_moved time (map when all) (map when (in_time_order all))
    (IsPermutation-map when all (in_time_order all) (in_order-permutation (is_less time_at) all)))
    ∙ ap (times time) (sym (own_times_of timing kinds s first (in_time_order all)))
    ∙ ap (λ l. times time (own_times timing l)) (sym is)

times_held : (timing : Timing) (fits : IsTiming timing) (kinds : List Kind) (s : Source) (first time : ℕ) (above : Option ℕ) (rows : List Row)
    (items : List Item)
    → items ≡ map (item_of kinds s first) (in_time_order (at_moments timing [] (rows_between above Closed rows))) → is_above above time ≡ true
    → times time (times_of rows) ≡ times time (own_times timing items)
times_held timing fits kinds s first time above rows items is e =
    times_between time above rows e ∙ times_items timing fits kinds s first time (rows_between above Closed rows) items is

-- the test behind the items that are held is the test behind all rows
test_same : (timing : Timing) (fits : IsTiming timing) (kinds : List Kind) (s : Source) (first : ℕ) (above last : Option ℕ) (rows : List Row)
    (items : List Item) (time : Option ℕ)
    → items ≡ map (item_of kinds s first) (in_time_order (at_moments timing [] (rows_between above Closed rows))) → last ≡ greatest (times_of rows)
    → IsSettled (margin timing s.slack) above last
    → test_times timing s.slack (times_of rows) time ≡ test_late timing s.slack (own_times timing items) last time
test_same timing fits kinds s first above last rows items None is top at = refl
test_same timing fits kinds s first above last rows items (Some time) is top at =
    ap (λ o. test_behind timing s.slack (times_of rows) o time) (sym top) ∙ by_last last refl
  where
    lt_of : (a b : ℕ) → nat_le a b ≡ false → b < a
    lt_of a b e = grind (arith, nat_tests)

    many : List ℕ → ℕ → Option Why
    many earlier l = where_true (nat_le timing.ties (times time earlier)) (same_time timing l time)

    by_test : (l : ℕ) (b : Bool) → last ≡ Some l → nat_le (time + margin timing s.slack) l ≡ b
        → or_else (where_true b (Disordered l time)) (many (times_of rows) l) ≡ or_else (where_true b (Disordered l time)) (many (own_times timing items) l)
    by_test l true e f = refl
    by_test l false e f =
        let lt = lt_of (time + margin timing s.slack) l f in
        let here = above_settled (margin timing s.slack) time above last at
        (λ m g. subst (λ n. n < time + margin timing s.slack) (some_is (sym e ∙ g)) lt) in
        ap (λ n. where_true (nat_le timing.ties n) (same_time timing l time)) (times_held timing fits kinds s first time above rows items is here)
      where
        some_is : {a b : ℕ} → Some a ≡ Some b → a ≡ b
        some_is e = cc

    by_last : (o : Option ℕ) → last ≡ o
        → test_behind timing s.slack (times_of rows) o time ≡ test_behind timing s.slack (own_times timing items) o time
    by_last None e = refl
    by_last (Some l) e = by_test l (nat_le (time + margin timing s.slack) l) e refl

-- the border that items are held above is settled where more is read
pub border_settled : (timing : Timing) (kinds : List Kind) (s : Source) (first : ℕ) (above : Option ℕ) (lines : List Next) (h : HeldSource)
    → (is : IsHeldBehind timing kinds first s above lines h)
    → h.closed ≡ false → IsSettled (margin timing s.slack) is.low h.last
border_settled timing kinds s first above lines h is goes = λ t e.
    let k = is.settled goes t e in
    (k.0, sym (settled_held timing kinds s first above lines h is) ∙ k.1, k.2)

pub fault_held : (timing : Timing) (fits : IsTiming timing) (kinds : List Kind) (s : Source) (first : ℕ) (above : Option ℕ) (lines : List Next)
    (h : HeldSource) (mid : Inlet) (row : Row)
    → IsHeldBehind timing kinds first s above lines h → mid.timing ≡ timing
    → h.closed ≡ false → mid.items ≡ h.items → mid.last ≡ h.last → mid.ended ≡ h.ended
    → row_fault timing kinds s (has_ended (rows_of lines)) (times_of (rows_of lines)) row ≡ first_some (λ test. test) (tests_behind kinds s mid row)
fault_held timing fits kinds s first above lines h mid row is timed goes items last ended =
    let at : IsSettled (margin timing s.slack) is.low h.last = border_settled timing kinds s first above lines h is goes in
    let same = test_same timing fits kinds s first is.low h.last (rows_of lines) h.items (time_in row) is.items is.last at in
    ap (λ b. first_some (λ test. test) (tests timing b (test_time timing s.slack (times_of (rows_of lines)) row))) (sym (ended ∙ is.ended))
    ∙ ap (λ o. first_some (λ test. test) (tests timing mid.ended o)) (same
    ∙ ap (λ l. test_late timing s.slack (own_times timing l) h.last (time_in row)) (sym items)
    ∙ ap (λ o. test_late timing s.slack (own_times timing mid.items) o (time_in row)) (sym last))
    ∙ ap (λ (own : Timing). first_some (λ test. test) (tests own mid.ended (test_late own s.slack (own_times own mid.items) mid.last (time_in row))))
    (sym timed)
  where
    tests : Timing → Bool → Option Why → List (Option Why)
    tests own b late = where_true b AfterEnd ∷ test_range own row ∷ test_tag kinds s row ∷ test_fields kinds row ∷ test_item row ∷ late ∷ []

-- ---- one line more
one_between : (above : Option ℕ) (rows : List Row) (row : Row) → ((time : ℕ) → time_in row ≡ Some time → is_above above time ≡ true) → is_end row ≡ false
    → rows_between above Closed (rows ++ row ∷ []) ≡ rows_between above Closed rows ++ row ∷ []
one_between above rows (Event time name key fields) up not_end =
    filter-append (is_between above Closed) rows (Event time name key fields ∷ [])
    ∙ ap (λ b. rows_between above Closed rows ++ cond (b && true) (Event time name key fields ∷ []) []) (up time refl)
one_between above rows (Beat time) up not_end =
    filter-append (is_between above Closed) rows (Beat time ∷ [])
    ∙ ap (λ b. rows_between above Closed rows ++ cond (b && true) (Beat time ∷ []) []) (up time refl)
one_between above rows End up not_end = absurd cc

no_between : (above : Option ℕ) (rows : List Row) → rows_between above Closed (rows ++ End ∷ []) ≡ rows_between above Closed rows
no_between above rows = filter-append (is_between above Closed) rows (End ∷ []) ∙ append-nil (rows_between above Closed rows)

-- the item of one row more, at its moment behind the items that are held
timed_items : (timing : Timing) (fits : IsTiming timing) (kinds : List Kind) (s : Source) (first time : ℕ) (above : Option ℕ) (rows : List Row) (row : Row)
    (items : List Item) → time_in row ≡ Some time → is_end row ≡ false
    → is_above above time ≡ true → items ≡ map (item_of kinds s first) (in_time_order (at_moments timing [] (rows_between above Closed rows)))
    → put_late item_time (item_of kinds s first (at_moment timing (own_times timing items) row)) items
    ≡ map (item_of kinds s first) (in_time_order (at_moments timing [] (rows_between above Closed (rows ++ row ∷ []))))
timed_items timing fits kinds s first time above rows row items at not_end up is =
    let own = rows_between above Closed rows in
    let here = at_moment timing (times_of own) row in
    let before : times (time_at row) (own_times timing items) ≡ times (time_at row) (times_of own) =
    sym (times_items timing fits kinds s first (time_at row) own items is) ∙ ap (times (time_at row)) (sym (times_kept above rows)) in
    ap (λ n. put_late item_time (item_of kinds s first (with_time (moment_at timing (time_at row) n) row)) items) before
    ∙ ap (put_late item_time (item_of kinds s first here)) is ∙ sym (items_late kinds s first (at_moments timing [] own) here)
    ∙ ap (λ l. map (item_of kinds s first) (in_time_order l))
    (sym (at_moments-append timing fits [] own (row ∷ []))
    ∙ ap (at_moments timing [])
    (sym (one_between above rows row (λ t e. let same : time ≡ t = some_is (sym at ∙ e) in ap (is_above above) (sym same) ∙ up) not_end)))
  where
    some_is : {a b : ℕ} → Some a ≡ Some b → a ≡ b
    some_is e = cc

row_items : (timing : Timing) (fits : IsTiming timing) (kinds : List Kind) (s : Source) (first : ℕ) (above : Option ℕ) (rows : List Row) (row : Row)
    (items : List Item) → ((time : ℕ) → time_in row ≡ Some time → is_above above time ≡ true)
    → items ≡ map (item_of kinds s first) (in_time_order (at_moments timing [] (rows_between above Closed rows)))
    → put_timed (time_in row) (item_of kinds s first (at_moment timing (own_times timing items) row)) items
    ≡ map (item_of kinds s first) (in_time_order (at_moments timing [] (rows_between above Closed (rows ++ row ∷ []))))
row_items timing fits kinds s first above rows (Event time name key fields) items up is =
    timed_items timing fits kinds s first time above rows (Event time name key fields) items refl refl (up time refl) is
row_items timing fits kinds s first above rows (Beat time) items up is =
    timed_items timing fits kinds s first time above rows (Beat time) items refl refl (up time refl) is
row_items timing fits kinds s first above rows End items up is =
    is ∙ ap (λ l. map (item_of kinds s first) (in_time_order (at_moments timing [] l))) (sym (no_between above rows))

row_last : (rows : List Row) (row : Row) (last : Option ℕ) → last ≡ greatest (times_of rows)
    → later_of last (time_in row) ≡ greatest (times_of (rows ++ row ∷ []))
row_last rows row last top = by_time (time_in row) refl
  where
    by_time : (o : Option ℕ) → time_in row ≡ o → later_of last o ≡ greatest (times_of (rows ++ row ∷ []))
    by_time None at = top ∙ ap greatest (sym (times_more rows row ∙ ap (λ o. times_of rows ++ option_to_list o) at ∙ append-nil (times_of rows)))
    by_time (Some time) at =
        ap (λ o. Some (max (unwrap_or o 0) time)) top
        ∙ sym (ap greatest (times_more rows row ∙ ap (λ o. times_of rows ++ option_to_list o) at) ∙ greatest-push (times_of rows) time)

row_first : (rows : List Row) (row : Row) (first : Option ℕ) → first ≡ least (times_of rows)
    → sooner_of first (time_in row) ≡ least (times_of (rows ++ row ∷ []))
row_first rows row first low = by_time (time_in row) refl
  where
    by_time : (o : Option ℕ) → time_in row ≡ o → sooner_of first o ≡ least (times_of (rows ++ row ∷ []))
    by_time None at = low ∙ ap least (sym (times_more rows row ∙ ap (λ o. times_of rows ++ option_to_list o) at ∙ append-nil (times_of rows)))
    by_time (Some time) at =
        ap (λ o. Some (min (unwrap_or o time) time)) low
        ∙ sym (ap least (times_more rows row ∙ ap (λ o. times_of rows ++ option_to_list o) at) ∙ least-push (times_of rows) time)

passes_late : (timing : Timing) (kinds : List Kind) (s : Source) (h : Inlet) (row : Row) → h.timing ≡ timing → fault_behind kinds s h row ≡ None
    → test_late timing s.slack (own_times timing h.items) h.last (time_in row) ≡ None
passes_late timing kinds s h row timed e =
    let one = (or_else-none (where_true h.ended AfterEnd) _ e).1 in
    let two = (or_else-none (test_range h.timing row) _ one).1 in
    let three = (or_else-none (test_tag kinds s row) _ two).1 in
    let four = (or_else-none (test_fields kinds row) _ three).1 in
    let five = (or_else-none (test_item row) _ four).1 in
    ap (λ (own : Timing). test_late own s.slack (own_times own h.items) h.last (time_in row)) (sym timed)
    ∙ (or_else-none (test_late h.timing s.slack (own_times h.timing h.items) h.last (time_in row)) _ five).0

row_above : (timing : Timing) (slack : ℕ) (above last : Option ℕ) (times : List ℕ) (row : Row) → IsSettled (margin timing slack) above last
    → test_late timing slack times last (time_in row) ≡ None
    → (time : ℕ) → time_in row ≡ Some time → is_above above time ≡ true
row_above timing slack above last times row at passes time e =
    passes_above timing slack time times above last at (ap (test_late timing slack times last) (sym e) ∙ passes)

-- the lines settle what they settled
settled_more : (timing : Timing) (kinds : List Kind) (s : Source) (above : Option ℕ) (lines : List Next) (next : Next)
    → line_defect timing kinds s lines next ≡ None
    → ((t : ℕ) → above ≡ Some t → (u : ℕ) × (settled_time timing s lines ≡ Some u) × (t ≤ u))
    → (t : ℕ) → above ≡ Some t → (u : ℕ) × (settled_time timing s (lines ++ next ∷ []) ≡ Some u) × (t ≤ u)
settled_more timing kinds s above lines next passes at t e =
    let was = at t e in
    let k = line_settles timing kinds s lines next was.0 was.1 passes in
    (k.1.0, k.1.1, omega (arith, was.2, k.1.2))

pub behind_row : (timing : Timing) (fits : IsTiming timing) (kinds : List Kind) (s : Source) (first : ℕ) (above : Option ℕ) (lines : List Next)
    (h : HeldSource) (mid new : Inlet) (line : ℕ) (row : Row) → IsHeldBehind timing kinds first s above lines h → mid.timing ≡ timing
    → h.closed ≡ false → mid.items ≡ h.items → mid.first ≡ h.first → mid.last ≡ h.last → mid.ended ≡ h.ended → mid.goal ≡ h.goal
    → mid.rows.file ≡ s.file → PutsIn kinds s first row mid new
    → IsHeldBehind timing kinds first s above (lines ++ RowNext line row ∷ []) (source_of new)
behind_row timing fits kinds s first above lines h mid new line row is timed goes items earliest last ended goal file puts =
    let at : IsSettled (margin timing s.slack) is.low h.last = border_settled timing kinds s first above lines h is goes in
    let tests = (or_else-none _ (test_held mid.held (items_in (width s) row)) (sym (fault_parts kinds s mid row) ∙ puts.passes)).0 in
    let fault = fault_held timing fits kinds s first above lines h mid row is timed goes items last ended ∙ tests in
    let passes : line_defect timing kinds s lines (RowNext line row) ≡ None = ap (option_map (λ (why : Why). (line, why))) fault in
    let late = passes_late timing kinds s mid row timed puts.passes in
    let up = row_above timing s.slack is.low mid.last (own_times timing mid.items) row
    (subst (IsSettled (margin timing s.slack) is.low) (sym last) at) late in
    record {
      file = ap (λ (place : Place). place.file) puts.rows ∙ file;
      low = is.low;
      sound = defect_in-more timing kinds s lines (RowNext line row) is.sound ∙ passes;
      items = puts.items
          ∙ ap (λ (own : Timing). put_timed (time_in row) (item_of kinds s first (at_moment own (own_times own mid.items) row)) mid.items) timed
          ∙ row_items timing fits kinds s first is.low (rows_of lines) row mid.items up (items ∙ is.items)
          ∙ ap (λ l. map (item_of kinds s first) (in_time_order (at_moments timing [] (rows_between is.low Closed l)))) (sym (rows_more lines line row));
      earliest = puts.earliest ∙ row_first (rows_of lines) row mid.first (earliest ∙ is.earliest)
          ∙ ap (λ l. least (times_of l)) (sym (rows_more lines line row));
      last = puts.last ∙ row_last (rows_of lines) row mid.last (last ∙ is.last) ∙ ap (λ l. greatest (times_of l)) (sym (rows_more lines line row));
      ended = puts.ended ∙ ap (λ b. b || is_end row) (ended ∙ is.ended) ∙ sym (ended_more (rows_of lines) row) ∙ ap has_ended (sym (rows_more lines line row));
      settled = λ open' t e. settled_more timing kinds s is.low lines (RowNext line row) passes (is.settled goes) t e;
      up_to = is.up_to;
      caught = λ none. is.caught (sym goal ∙ sym puts.goal ∙ none);
      goal = λ t e. is.goal t (sym goal ∙ sym puts.goal ∙ e);
    }

-- ---- the end of a file
defect_of_last : (timing : Timing) (kinds : List Kind) (s : Source) (lines : List Next) (next : Next) → IsNoRow next
    → line_defect timing kinds s lines next ≡ defect_behind (has_ended (rows_of lines)) next
defect_of_last timing kinds s lines (RowNext line row) other = absurd (other line row refl)
defect_of_last timing kinds s lines (Bad line) other = refl
defect_of_last timing kinds s lines TooManyLines other = refl
defect_of_last timing kinds s lines (Done count) other = refl

pub defect_held : (timing : Timing) (kinds : List Kind) (s : Source) (first : ℕ) (above : Option ℕ) (lines : List Next) (h : HeldSource) (next : Next)
    → IsHeldBehind timing kinds first s above lines h → IsNoRow next
    → line_defect timing kinds s lines next ≡ defect_behind h.ended next
defect_held timing kinds s first above lines h next is other =
    defect_of_last timing kinds s lines next other ∙ ap (λ b. defect_behind b next) (sym is.ended)

pub behind_end : (timing : Timing) (kinds : List Kind) (s : Source) (first : ℕ) (above : Option ℕ) (lines : List Next) (old new : HeldSource) (next : Next)
    → IsHeldBehind timing kinds first s above lines old → IsNoRow next
    → defect_behind old.ended next ≡ None → new.items ≡ old.items → new.first ≡ old.first → new.last ≡ old.last → new.ended ≡ old.ended → new.closed ≡ true
    → new.goal ≡ old.goal → new.place.file ≡ s.file
    → IsHeldBehind timing kinds first s above (lines ++ next ∷ []) new
behind_end timing kinds s first above lines old new next is other none items earliest last ended closed goal file =
    let rows = no_row_more lines next other in
    record {
      file = file;
      sound = defect_in-more timing kinds s lines next is.sound ∙ defect_held timing kinds s first above lines old next is other ∙ none;
      low = is.low;
      items = items ∙ is.items
          ∙ ap (λ l. map (item_of kinds s first) (in_time_order (at_moments timing [] (rows_between is.low Closed l)))) (sym rows);
      earliest = earliest ∙ is.earliest ∙ ap (λ l. least (times_of l)) (sym rows);
      last = last ∙ is.last ∙ ap (λ l. greatest (times_of l)) (sym rows);
      ended = ended ∙ is.ended ∙ ap has_ended (sym rows);
      settled = λ open' t e. absurd (not_both new.closed closed open');
      up_to = is.up_to;
      caught = λ none'. is.caught (sym goal ∙ none');
      goal = λ t e. is.goal t (sym goal ∙ e);
    }

-- ---- what is so between rounds
settled_later : (slack : ℕ) (last time : Option ℕ) (u : ℕ) → settled slack last ≡ Some u → (v : ℕ) × (settled slack (later_of last time) ≡ Some v) × (u ≤ v)
settled_later slack last None u e = (u, e, omega arith)
settled_later slack None (Some time) u e = absurd cc
settled_later slack (Some l) (Some time) u e =
    let is = settled_is slack l u e in
    (max l time - slack, settled_some slack (max l time) (omega (arith, is.0)), omega (arith, is.0, is.1))

-- the moment of a time above a border is above the border of moments
moment_above : (timing : Timing) (fits : IsTiming timing) (border : Option ℕ) (time before : ℕ) → is_above border time ≡ true
    → is_above (border_moment timing border) (moment_at timing time before) ≡ true
moment_above timing fits border time before up =
    is_above-moment timing fits border (moment_at timing time before) ∙ ap (is_above border) (time_of-moment timing fits time before) ∙ up

all_timed : (timing : Timing) (fits : IsTiming timing) (kinds : List Kind) (s : Source) (first : ℕ) (border : Option ℕ) (row : Row) (earlier : List ℕ)
    (items : List Item) → ((time : ℕ) → time_in row ≡ Some time → is_above border time ≡ true)
    → list_all (λ (item : Item). is_above (border_moment timing border) (item_time item)) items ≡ true
    → list_all (λ (item : Item). is_above (border_moment timing border) (item_time item))
    (put_timed (time_in row) (item_of kinds s first (at_moment timing earlier row)) items) ≡ true
all_timed timing fits kinds s first border (Event time name key fields) earlier items up all =
    all_late (λ (item : Item). is_above (border_moment timing border) (item_time item)) item_time
    (item_of kinds s first (at_moment timing earlier (Event time name key fields))) items
    (moment_above timing fits border time (times time earlier) (up time refl)) all
all_timed timing fits kinds s first border (Beat time) earlier items up all =
    all_late (λ (item : Item). is_above (border_moment timing border) (item_time item)) item_time
    (item_of kinds s first (at_moment timing earlier (Beat time))) items (moment_above timing fits border time (times time earlier) (up time refl)) all
all_timed timing fits kinds s first border End earlier items up all = all

pub well_row : (timing : Timing) (fits : IsTiming timing) (kinds : List Kind) (s : Source) (first : ℕ) (border : Option ℕ) (old mid new : Inlet) (row : Row)
    → IsWellAt timing s border old → mid.timing ≡ old.timing → old.closed ≡ false
    → mid.items ≡ old.items → mid.last ≡ old.last → mid.goal ≡ old.goal → mid.rows.file ≡ s.file → PutsIn kinds s first row mid new
    → IsWellAt timing s border new
well_row timing fits kinds s first border old mid new row well same_timing goes items last goal file puts =
    record {
      timing_is = puts.timing ∙ timed;
      file = ap (λ (place : Place). place.file) puts.rows ∙ file;
      goal = λ t e. well.goal t (sym same ∙ e);
      clock = λ ticks. absurd (not_both old.closed (well.clock ticks) goes);
      above = λ none. ap all (puts.items ∙ ap put timed)
          ∙ all_timed timing fits kinds s first border row (own_times timing mid.items) mid.items (up (sym same ∙ none))
          (ap all items ∙ well.above (sym same ∙ none));
      settled = λ none open' t e. let was = at (sym same ∙ none) t e in let k = settled_later (margin timing s.slack) mid.last (time_in row) was.0 was.1 in (
        k.0,
        ap (λ (own : Timing). settled (margin own s.slack) new.last) (puts.timing ∙ timed) ∙ ap (settled (margin timing s.slack)) puts.last ∙ k.1,
        omega (arith, was.2, k.2),
      );
    }
  where
    same : new.goal ≡ old.goal
    same = puts.goal ∙ goal

    timed : mid.timing ≡ timing
    timed = same_timing ∙ well.timing_is

    all : List Item → Bool
    all l = list_all (λ (item : Item). is_above (border_moment timing border) (item_time item)) l

    put : Timing → List Item
    put own = put_timed (time_in row) (item_of kinds s first (at_moment own (own_times own mid.items) row)) mid.items

    at : old.goal ≡ None → IsSettled (margin timing s.slack) border mid.last
    at none = λ t e. let k = well.settled none goes t e in (
      k.0,
      ap (settled (margin timing s.slack)) last ∙ ap (λ (own : Timing). settled (margin own s.slack) old.last) (sym well.timing_is) ∙ k.1,
      k.2,
    )

    up : old.goal ≡ None → (time : ℕ) → time_in row ≡ Some time → is_above border time ≡ true
    up none = row_above timing s.slack border mid.last (own_times timing mid.items) row (at none) (passes_late timing kinds s mid row timed puts.passes)

-- ---- a resumed run comes to its border
exceeds_low : (low : Option ℕ) (t : ℕ) → ((l : ℕ) → low ≡ Some l → l ≤ t) → Exceeds t low
exceeds_low None t le u e = refl
exceeds_low (Some l) t le u e = let few : l ≤ t = le l refl in grind (arith, nat_tests)

low_under : (slack t l : ℕ) (last : Option ℕ) → settled slack last ≡ Some t → (u : ℕ) × (settled slack last ≡ Some u) × (l ≤ u) → l ≤ t
low_under slack t l last at k = let same : k.0 ≡ t = some_is (sym k.1 ∙ at) in omega (arith, k.2, same)
  where
    some_is : {a b : ℕ} → Some a ≡ Some b → a ≡ b
    some_is e = cc

under_goal : (low above : Option ℕ) (g l : ℕ) → IsUpTo low above → above ≡ Some g → low ≡ Some l → l ≤ g
under_goal low above g l up is e =
    let k = up l e in
    let same : k.0 ≡ g = some_is (sym k.1 ∙ is) in
    omega (arith, k.2, same)
  where
    some_is : {a b : ℕ} → Some a ≡ Some b → a ≡ b
    some_is e = cc

one_of_both : {P : Type 0} (goal : Option ℕ) (g : ℕ) → goal ≡ Some g → goal ≡ None → P
one_of_both goal g e none = absurd (never (sym e ∙ none))
  where
    never : Some g ≡ None → ⊥
    never e = cc

pub behind_caught : (timing : Timing) (fits : IsTiming timing) (kinds : List Kind) (s : Source) (first : ℕ) (above : Option ℕ) (lines : List Next)
    (old new : Inlet) → old.timing ≡ timing → CatchesUp s.slack old new
    → IsHeldBehind timing kinds first s above lines (source_of old) → IsHeldBehind timing kinds first s above lines (source_of new)
behind_caught timing fits kinds s first above lines old new timed c is = by_items c.items
  where
    some_is : {a b : ℕ} → Some a ≡ Some b → a ≡ b
    some_is e = cc

    settles : settled (margin old.timing s.slack) old.last ≡ settled_time timing s lines
    settles = ap (λ (own : Timing). settled (margin own s.slack) old.last) timed ∙ sym (settled_held timing kinds s first above lines (source_of old) is)

    settled_at : (t : ℕ) → (u : ℕ) × (settled (margin old.timing s.slack) old.last ≡ Some u) × (t ≤ u)
        → (u : ℕ) × (settled_time timing s lines ≡ Some u) × (t ≤ u)
    settled_at t k = (k.0, sym settles ∙ k.1, k.2)

    -- what is left above a time
    left_at : (t : ℕ) → ((l : ℕ) → is.low ≡ Some l → l ≤ t)
        → filter (λ (item : Item). nat_lt (last_moment old.timing t) (item_time item)) old.items
        ≡ map (item_of kinds s first) (in_time_order (at_moments timing [] (rows_between (Some t) Closed (rows_of lines))))
    left_at t under =
        ap (λ (own : Timing). filter (λ (item : Item). nat_lt (last_moment own t) (item_time item)) old.items) timed
        ∙ left_items kinds s first (border_moment timing is.low) (last_moment timing t) (at_moments timing [] (rows_of lines)) old.items
        (exceeds_moments timing fits t is.low (exceeds_low is.low t under))
        (is.items ∙ rows_above timing fits kinds s first is.low (rows_of lines))
        ∙ sym (rows_above timing fits kinds s first (Some t) (rows_of lines))

    by_items : IsCaughtUp s.slack old new → IsHeldBehind timing kinds first s above lines (source_of new)
    by_items (Stays items goal) = record {
      file = ap (λ (place : Place). place.file) c.rows ∙ is.file;
      sound = is.sound;
      low = is.low;
      items = items ∙ is.items;
      earliest = c.first ∙ is.earliest;
      last = c.last ∙ is.last;
      ended = c.ended ∙ is.ended;
      settled = λ open'. is.settled (sym c.closed ∙ open');
      up_to = is.up_to;
      caught = λ none. is.caught (sym goal ∙ none);
      goal = λ t e. is.goal t (sym goal ∙ e);
    }
    by_items (Drops t goal goes at lt was now items) = record {
      file = ap (λ (place : Place). place.file) c.rows ∙ is.file;
      sound = is.sound;
      low = Some t;
      items = items ∙ left_at t (λ l e. low_under (margin old.timing s.slack) t l old.last at
          (let k = is.settled goes l e in (k.0, settles ∙ k.1, k.2)));
      earliest = c.first ∙ is.earliest;
      last = c.last ∙ is.last;
      ended = c.ended ∙ is.ended;
      settled = λ open' v e. settled_at v (t, at, let same : t ≡ v = some_is e in omega (arith, same));
      up_to = λ l e. (goal, is.goal goal was, let same : t ≡ l = some_is e in omega (arith, same, lt));
      caught = λ none. one_of_both new.goal goal now none;
      goal = λ v e. is.goal v (was ∙ sym now ∙ e);
    }
    by_items (Comes goal at was now items) = record {
      file = ap (λ (place : Place). place.file) c.rows ∙ is.file;
      sound = is.sound;
      low = Some goal;
      items = items ∙ left_at goal (λ l e. under_goal is.low above goal l is.up_to (is.goal goal was) e);
      earliest = c.first ∙ is.earliest;
      last = c.last ∙ is.last;
      ended = c.ended ∙ is.ended;
      settled = λ open' v e. settled_at v (let k = at (sym c.closed ∙ open') in let same : goal ≡ v = some_is e in (k.0, k.1, omega (arith, same, k.2)));
      up_to = λ l e. (goal, is.goal goal was, let same : goal ≡ l = some_is e in omega (arith, same));
      caught = λ none. sym (is.goal goal was);
      goal = λ v e. one_of_both new.goal v e now;
    }

pub well_caught : (timing : Timing) (s : Source) (border : Option ℕ) (old new : Inlet) → CatchesUp s.slack old new → IsWellAt timing s border old
    → IsWellAt timing s border new
well_caught timing s border old new c well = by_items c.items
  where
    some_is : {a b : ℕ} → Some a ≡ Some b → a ≡ b
    some_is e = cc

    settles : settled (margin new.timing s.slack) new.last ≡ settled (margin old.timing s.slack) old.last
    settles = ap (λ (own : Timing). settled (margin own s.slack) new.last) c.timing ∙ ap (settled (margin old.timing s.slack)) c.last

    by_items : IsCaughtUp s.slack old new → IsWellAt timing s border new
    by_items (Stays items goal) = record {
      timing_is = c.timing ∙ well.timing_is;
      file = ap (λ (place : Place). place.file) c.rows ∙ well.file;
      goal = λ t e. well.goal t (sym goal ∙ e);
      clock = λ ticks. c.closed ∙ well.clock ticks;
      above = λ none. ap (list_all (λ (item : Item). is_above (border_moment timing border) (item_time item))) items ∙ well.above (sym goal ∙ none);
      settled = λ none open' t e. let k = well.settled (sym goal ∙ none) (sym c.closed ∙ open') t e in (k.0, settles ∙ k.1, k.2);
    }
    by_items (Drops t goal goes at lt was now items) = record {
      timing_is = c.timing ∙ well.timing_is;
      file = ap (λ (place : Place). place.file) c.rows ∙ well.file;
      goal = λ v e. well.goal v (was ∙ sym now ∙ e);
      clock = λ ticks. c.closed ∙ well.clock ticks;
      above = λ none. one_of_both new.goal goal now none;
      settled = λ none. one_of_both new.goal goal now none;
    }
    by_items (Comes goal at was now items) =
        let is : border ≡ Some goal = well.goal goal was in
        record {
          timing_is = c.timing ∙ well.timing_is;
          file = ap (λ (place : Place). place.file) c.rows ∙ well.file;
          goal = λ v e. one_of_both new.goal v e now;
          clock = λ ticks. c.closed ∙ well.clock ticks;
          above = λ none.
              ap (λ (b : Option ℕ). list_all (λ (item : Item). is_above (border_moment timing b) (item_time item)) new.items) is
              ∙ ap (list_all (λ (item : Item). nat_lt (last_moment timing goal) (item_time item)))
              (items ∙ ap (λ (own : Timing). filter (λ (item : Item). nat_lt (last_moment own goal) (item_time item)) old.items) well.timing_is)
              ∙ all_kept (λ (item : Item). nat_lt (last_moment timing goal) (item_time item)) old.items;
          settled = λ none open' t e. let k = at (sym c.closed ∙ open') in let same : goal ≡ t = some_is (sym is ∙ e) in
              (k.0, settles ∙ k.1, omega (arith, same, k.2));
        }

pub still_caught : (slack : ℕ) (old new : Inlet) (left : Contents) → CatchesUp slack old new → still (source_of new) left ≡ still (source_of old) left
still_caught slack old new left c = rw (c.rows, c.closed) refl
