-- The rows that were read of a source, and the items that they are.
use Rattle.std.proofs.Common.{◌≡◌, ℕ, ◌+◌, ◌<◌, ◌≤◌, max, min, Bool, true, false, ◌||◌, ◌&&◌, leb, eqb, List, [], ◌∷◌, ◌++◌, map, Option, Some, None, refl}
use Rattle.std.proofs.Common.{ap, ◌∙◌, arith, if◌then◌else◌}
use Rattle.std.specs.Prelude.{option_map, unwrap_or}
use Rattle.std.specs.List.{filter_map, cons_option, list_any}
use Rattle.std.specs.Option.{option_to_list}
use Rattle.std.proofs.lemmas.Bool.Decides.{nat_tests}
use Rattle.std.proofs.lemmas.List.{append-nil}
use Rattle.std.proofs.lemmas.List.Elements.{filter_map-append}
use Rattle.std.proofs.lemmas.List.Folds.{list_any-append}
use Rattle.std.proofs.lemmas.List.Sums.{sum_by-append}
use Rattle.flu_lemmas.specs.Late.{put_late}
use Rattle.flu_lemmas.proofs.Late.{RisesFrom, in_order-late, put_late-zero, put_late-map}
use Rattle.flu_lemmas.proofs.Tests.{and_left, and_right, both, le_true}
use Rattle.flu_model.specs.declared.events.Item.{Item}
use Rattle.flu_model.specs.declared.events.Item.TheVariants.{Event as EventItem, Beat as BeatItem, End as EndItem}
use Rattle.flu_model.specs.declared.jobs.Kind.{Kind}
use Rattle.flu_model.specs.declared.jobs.Source.{Source}
use Rattle.flu_model.specs.Streaming.{is_stream_from}
use Rattle.flu_rows.specs.declared.row.Row.{Row}
use Rattle.flu_rows.specs.declared.row.Row.TheVariants.{Event, Beat, End}
use Rattle.flu_rows.specs.declared.rows.Next.{Next}
use Rattle.flu_rows.specs.declared.rows.Next.TheVariants.{Row as RowNext, Bad, TooManyLines, Done}
use Rattle.flu_rows.specs.Reading.{then_behind, OnDone}
use Rattle.flu_streams.specs.declared.faults.Why.{Why}
use Rattle.flu_streams.specs.Before.{or_else}
use Rattle.flu_streams.specs.Lists.{item_time, times_in, item_for}
use Rattle.flu_streams.specs.Tags.{place_named, given_to, width}
use Rattle.flu_streams.specs.Tests.{row_in, rows_of, is_end, has_ended, time_in, times_of, least, greatest, items_in, items_of, where_true}
use Rattle.flu_streams.specs.Good.{event_of, item_in, time_at, in_time_order, items_at}
use Rattle.flu_streams.specs.Holding.{item_of}
use Rattle.flu_streams.specs.LoopStop.{defect_behind}

-- ---- one row more
one_option : {Y : Type 0} (o : Option Y) → cons_option o [] ≡ option_to_list o
one_option None = refl
one_option (Some y) = refl

filter_one : {X Y : Type 0} (f : X → Option Y) (x : X) → filter_map f (x ∷ []) ≡ option_to_list (f x)
filter_one f x = one_option (f x)

pub filter_more : {X Y : Type 0} (f : X → Option Y) (xs : List X) (x : X) → filter_map f (xs ++ (x ∷ [])) ≡ filter_map f xs ++ option_to_list (f x)
filter_more f xs x = filter_map-append f xs (x ∷ []) ∙ ap (λ rest. filter_map f xs ++ rest) (filter_one f x)

or-false : (b : Bool) → (b || false) ≡ b
or-false true = refl
or-false false = refl

pub times_more : (rows : List Row) (row : Row) → times_of (rows ++ (row ∷ [])) ≡ times_of rows ++ option_to_list (time_in row)
times_more rows row = filter_more time_in rows row

pub ended_more : (rows : List Row) (row : Row) → has_ended (rows ++ (row ∷ [])) ≡ (has_ended rows || is_end row)
ended_more rows row = list_any-append is_end rows (row ∷ []) ∙ ap (λ b. has_ended rows || b) (or-false (is_end row))

pub items_more : (itags : ℕ) (rows : List Row) (row : Row) → items_of itags (rows ++ (row ∷ [])) ≡ items_of itags rows + items_in itags row
items_more itags rows row = sum_by-append (items_in itags) rows (row ∷ []) ∙ omega arith

-- ---- the times
pub greatest-push : (ts : List ℕ) (t : ℕ) → greatest (ts ++ (t ∷ [])) ≡ Some (max (unwrap_or (greatest ts) 0) t)
greatest-push [] t = ap Some (omega arith)
greatest-push (x ∷ ts) t = rw (greatest-push ts t) (ap Some (omega arith))

pub least-push : (ts : List ℕ) (t : ℕ) → least (ts ++ (t ∷ [])) ≡ Some (min (unwrap_or (least ts) t) t)
least-push [] t = ap Some (omega arith)
least-push (x ∷ ts) t = rw (least-push ts t) (by_rest (least ts))
  where
    by_rest : (o : Option ℕ) → Some (min x (min (unwrap_or o t) t)) ≡ Some (min (min x (unwrap_or o x)) t)
    by_rest None = ap Some (omega arith)
    by_rest (Some l) = ap Some (omega arith)

pub any_time : (time : ℕ) (items : List Item) → list_any (λ t. eqb t time) (times_in items) ≡ list_any (λ (item : Item). eqb (item_time item) time) items
any_time time [] = refl
any_time time (z ∷ zs) = ap (λ b. eqb (item_time z) time || b) (any_time time zs)

-- ---- the order of time
pub ordered_more : (rows : List Row) (row : Row) → in_time_order (rows ++ (row ∷ [])) ≡ put_late time_at row (in_time_order rows)
ordered_more rows row = in_order-late time_at rows row

pub item_time-of : (kinds : List Kind) (s : Source) (first : ℕ) (row : Row) → item_time (item_of kinds s first row) ≡ time_at row
item_time-of kinds s first (Event time name key fields) = refl
item_time-of kinds s first (Beat time) = refl
item_time-of kinds s first End = refl

pub items_late : (kinds : List Kind) (s : Source) (first : ℕ) (rows : List Row) (row : Row) → map (item_of kinds s first)
    (in_time_order (rows ++ (row ∷ []))) ≡ put_late item_time (item_of kinds s first row) (map (item_of kinds s first) (in_time_order rows))
items_late kinds s first rows row = ap (map (item_of kinds s first)) (ordered_more rows row)
    ∙ put_late-map (item_of kinds s first) time_at item_time (item_time-of kinds s first) row (in_time_order rows)

-- ---- the list of each itag
-- what an item is for an itag is what its row is
pub for_itag : (kinds : List Kind) (s : Source) (first place : ℕ) (row : Row) → place < width s
    → item_for (first + place) (item_of kinds s first row) ≡ item_in kinds s first place row
for_itag kinds s first place (Event time name key fields) lt = by_place (place_named kinds s name key)
  where
    by_place : (found : Option ℕ) → item_for (first + place)
        (EventItem (event_of time (first + unwrap_or found (width s)) (given_to kinds name fields)))
        ≡ (if unwrap_or (option_map (λ n. eqb n place) found) false then Some
        (EventItem (event_of time (first + place) (given_to kinds name fields))) else None)
    by_place None = let other : eqb (first + width s) (first + place) ≡ false = grind (arith, nat_tests) in rw other refl
    by_place (Some n) = by_test (eqb n place) refl
      where
        by_test : (b : Bool) → eqb n place ≡ b → item_for (first + place)
            (EventItem (event_of time (first + n) (given_to kinds name fields)))
            ≡ (if eqb n place then Some (EventItem (event_of time (first + place) (given_to kinds name fields))) else None)
        by_test true same =
            let is : n ≡ place = grind (arith, nat_tests) in
            let hit : eqb (first + place) (first + place) ≡ true = grind (arith, nat_tests) in
            let itself : eqb place place ≡ true = grind (arith, nat_tests) in
            rw (is, hit, itself) refl
        by_test false other = let apart : eqb (first + n) (first + place) ≡ false = grind (arith, nat_tests) in rw (apart, other) refl
for_itag kinds s first place (Beat time) lt = refl
for_itag kinds s first place End lt = refl

pub for_itags : (kinds : List Kind) (s : Source) (first place : ℕ) (rows : List Row) → place < width s
    → filter_map (item_for (first + place)) (map (item_of kinds s first) rows) ≡ filter_map (item_in kinds s first place) rows
for_itags kinds s first place [] lt = refl
for_itags kinds s first place (row ∷ rows) lt = λ i. cons_option (for_itag kinds s first place row lt i) (for_itags kinds s first place rows lt i)

-- the end of a source stands in no list's order
pub items_at-end : (kinds : List Kind) (s : Source) (first place : ℕ) (rows : List Row)
    → items_at kinds s first (rows ++ (End ∷ [])) place ≡ filter_map (item_in kinds s first place) (in_time_order rows) ++ (EndItem ∷ [])
items_at-end kinds s first place rows =
    ap (λ l. filter_map (item_in kinds s first place) l ++ (EndItem ∷ [])) (ordered_more rows End ∙ put_late-zero time_at End (in_time_order rows) refl)

-- ---- streams
stream_lower : (itag low lower : ℕ) (items : List Item) → lower ≤ low → is_stream_from itag low items ≡ true → is_stream_from itag lower items ≡ true
stream_lower itag low lower [] le is = is
stream_lower itag low lower (EventItem x ∷ rest) le is =
    let front = and_left (eqb x.itag.0 itag && leb low x.time) (is_stream_from itag (x.time + 1) rest) is in
    let later : leb low x.time ≡ true = and_right (eqb x.itag.0 itag) (leb low x.time) front in
    let sooner : leb lower x.time ≡ true = grind (arith, nat_tests) in
    both _ _ (both (eqb x.itag.0 itag) (leb lower x.time) (and_left (eqb x.itag.0 itag) (leb low x.time) front) sooner)
    (and_right (eqb x.itag.0 itag && leb low x.time) (is_stream_from itag (x.time + 1) rest) is)
stream_lower itag low lower (BeatItem t ∷ rest) le is =
    let later : leb low t ≡ true = and_left (leb low t) (is_stream_from itag (t + 1) rest) is in
    let sooner : leb lower t ≡ true = grind (arith, nat_tests) in
    both (leb lower t) (is_stream_from itag (t + 1) rest) sooner (and_right (leb low t) (is_stream_from itag (t + 1) rest) is)
stream_lower itag low lower (EndItem ∷ []) le is = refl
stream_lower itag low lower (EndItem ∷ x ∷ rest) le is = is

pub stream_of : (itag low : ℕ) (items : List Item) → RisesFrom item_time low items
    → is_stream_from itag low (filter_map (item_for itag) items ++ (EndItem ∷ [])) ≡ true
stream_of itag low [] up = refl
stream_of itag low (EventItem x ∷ rest) up = by_test (eqb x.itag.0 itag) refl (stream_of itag (x.time + 1) rest up.1)
  where
    by_test : (b : Bool) → eqb x.itag.0 itag ≡ b → is_stream_from itag (x.time + 1) (filter_map (item_for itag) rest ++ (EndItem ∷ [])) ≡ true
        → is_stream_from itag low (filter_map (item_for itag) (EventItem x ∷ rest) ++ (EndItem ∷ [])) ≡ true
    by_test true own more = rw own (both _ _ (both (eqb x.itag.0 itag) (leb low x.time) own (le_true low x.time up.0)) more)
    by_test false other more = rw other (stream_lower itag (x.time + 1) low (filter_map (item_for itag) rest ++ (EndItem ∷ [])) (omega (arith, up.0)) more)
stream_of itag low (BeatItem t ∷ rest) up = both _ _ (le_true low t up.0) (stream_of itag (t + 1) rest up.1)
stream_of itag low (EndItem ∷ rest) up =
    stream_lower itag 1 low (filter_map (item_for itag) rest ++ (EndItem ∷ [])) (omega (arith, up.0)) (stream_of itag 1 rest up.1)

-- a source goes on where no test says otherwise
pub goes_on : (ended : Bool) (why : Why) (rest : Option Why) → or_else (where_true ended why) rest ≡ None → ended ≡ false
goes_on true why rest e = absurd cc
goes_on false why rest e = refl

pub rows_more : (read : List Next) (line : ℕ) (row : Row) → rows_of (read ++ (RowNext line row ∷ [])) ≡ rows_of read ++ (row ∷ [])
rows_more read line row = filter_more row_in read (RowNext line row)

-- ---- what is no row
abbrev pub IsNoRow : Next → Type 0
IsNoRow next = (line : ℕ) (row : Row) → next ≡ RowNext line row → ⊥

pub then_last : (next : Next) (behind : List Next) → IsNoRow next → then_behind next behind ≡ next ∷ []
then_last (RowNext line row) behind other = absurd (other line row refl)
then_last (Bad line) behind other = refl
then_last TooManyLines behind other = refl
then_last (Done lines) behind other = refl

done_if_none : (ended : Bool) (next : Next) → IsNoRow next → defect_behind ended next ≡ None → (ended ≡ true) × ((fact : Type 0) → OnDone next fact → fact)
done_if_none ended (RowNext line row) other e = absurd (other line row refl)
done_if_none ended (Bad line) other e = absurd cc
done_if_none ended TooManyLines other e = absurd cc
done_if_none true (Done lines) other e = (refl, λ fact h. h)
done_if_none false (Done lines) other e = absurd cc

pub no_row_more : (read : List Next) (next : Next) → IsNoRow next → rows_of (read ++ (next ∷ [])) ≡ rows_of read
no_row_more read (RowNext line row) other = absurd (other line row refl)
no_row_more read (Bad line) other = filter_more row_in read (Bad line) ∙ append-nil (rows_of read)
no_row_more read TooManyLines other = filter_more row_in read TooManyLines ∙ append-nil (rows_of read)
no_row_more read (Done lines) other = filter_more row_in read (Done lines) ∙ append-nil (rows_of read)

pub at_done : (ended : Bool) (next : Next) (fact : Type 0) → IsNoRow next → defect_behind ended next ≡ None → OnDone next fact → fact
at_done ended next fact other none h = (done_if_none ended next other none).1 fact h
