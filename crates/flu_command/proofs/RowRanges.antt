-- The rows of a file have times below 2^63 and values of 64 bits, and so have the events of a run.
use Rattle.std.proofs.Common.{◌≡◌, ℕ, zero, suc, ◌/◌, ◌+◌, ◌<◌, ◌≤◌, ◌^◌, ◌-◌, ℤ, pos, negsuc, Bool, true, false, cond, Option, Some, None, List, [], ◌∷◌, ◌++◌}
use Rattle.std.proofs.Common.{map, length, append_assoc, take, max, refl, sym, ap, subst, ◌∙◌, arith}
use Rattle.std.specs.Prelude.{nat_lt, nat_le, ◌==◌, ◌&&◌, not, slice_get, slice_index, drop, option_map, option_and_then, unwrap_or, codes, sum_by, neg_ℤ, ⊤}
use Rattle.std.specs.Prelude.{IfSome, if◌then◌else◌}
use Rattle.std.specs.Char.{is_ascii_digit}
use Rattle.std.specs.List.{list_all, filter_map, range_with_len, AllByRecursion}
use Rattle.std.specs.Str.{bytes_eq}
use Rattle.std.specs.Str.Parse.{digits_value}
use Rattle.std.proofs.lemmas.Option.{slice_get_within}
use Rattle.flu_lemmas.specs.Counting.{times}
use Rattle.flu_lemmas.specs.Elements.{AtEach}
use Rattle.flu_lemmas.proofs.Elements.{all_append, all_filter, all_map}
use Rattle.flu_lemmas.proofs.Tests.{and_right, true_le}
use Rattle.flu_model.specs.declared.events.Event.{Event}
use Rattle.flu_model.specs.declared.events.Item.{Item}
use Rattle.flu_model.specs.declared.events.Item.TheVariants.{Event as EventItem, Beat as BeatItem, End as EndItem}
use Rattle.flu_model.specs.declared.jobs.Kind.{Kind}
use Rattle.flu_model.specs.declared.jobs.Source.{Source}
use Rattle.flu_model.specs.declared.jobs.Program.{Program}
use Rattle.flu_model.specs.declared.moments.Timing.{Timing}
use Rattle.flu_model.specs.Merging.{events_of, all_events, merged, is_before}
use Rattle.flu_model.specs.Moments.{IsTiming, moments_a_time, timing_of}
use Rattle.flu_model.specs.Rules.{is_clock}
use Rattle.flu_lemmas.specs.Late.{is_less}
use Rattle.flu_model.specs.Numberings.{Numbering}
use Rattle.flu_rows.specs.declared.row.RowForm.{RowForm}
use Rattle.flu_rows.specs.declared.row.RowForm.TheVariants.{Older, WithItems}
use Rattle.flu_rows.specs.declared.row.Fields.{Fields}
use Rattle.flu_rows.specs.declared.row.Fields.TheVariants.{Nothing, One, Two, Named, NamedWith, Other}
use Rattle.flu_rows.specs.declared.row.Row.{Row}
use Rattle.flu_rows.specs.declared.row.Row.TheVariants.{Event as EventRow, Beat as BeatRow, End as EndRow}
use Rattle.flu_rows.specs.declared.rows.Next.{Next}
use Rattle.flu_rows.specs.declared.rows.Next.TheVariants.{Row as RowNext, Bad, TooManyLines, Done}
use Rattle.flu_rows.specs.Fields.{number_of, time_of, item_of, value_of, tag_of}
use Rattle.flu_rows.specs.ItemNames.{items_named, named_item}
use Rattle.flu_rows.specs.Laws.{TimesAreInRange}
use Rattle.flu_rows.specs.Lines.{line_of, line_of_fields, line_of_row, line_of_one, line_of_records, begins_with_mark, lines_of}
use Rattle.flu_rows.specs.Reading.{read_line, read_lines, read_file}
use Rattle.flu_rows.specs.Records.{first_record, record_after}
use Rattle.flu_rows.specs.Row.{number_field, field_by, one_field, number_fields, named_fields, fields_by, two_fields, row_of, row_of_two, row_of_three}
use Rattle.flu_rows.specs.Row.{row_of_four, filled_len}
use Rattle.flu_streams.specs.declared.border.Border.{Border}
use Rattle.flu_streams.specs.Before.{each_with_before, with_before}
use Rattle.flu_streams.specs.Clocks.{tick_at, items_of_ticks, lists_of_ticks}
use Rattle.flu_streams.specs.Good.{event_of, item_in, items_at, at_moments, in_time_order, time_at, lists_of_rows, lists_of_source}
use Rattle.flu_streams.specs.Rounds.{lists_between, rows_between, ticks_between, is_between}
use Rattle.flu_streams.specs.Tags.{width, place_named, given, given_by, given_to}
use Rattle.flu_streams.specs.Tests.{rows_of, times_of, greatest}
use Rattle.flu_streams.proofs.Moments.{time_of-moment, timing_fits}
use Rattle.flu_rounds.specs.Written.{AreSound}
use Rattle.flu_command.proofs.TickRanges.{all_images, all_flat, between_low}
use Rattle.flu_command.proofs.Widths.{IsWord, all_in_order}

-- ---- rows
-- a value of 64 bits
abbrev pub FieldsFit : Fields → Type 0
FieldsFit Nothing = ⊤
FieldsFit (One item value) = IsWord value
FieldsFit (Two item value) = IsWord value
FieldsFit (Named item) = ⊤
FieldsFit (NamedWith item value) = IsWord value
FieldsFit Other = ⊤

-- a time below 2^63, and a value of 64 bits
abbrev pub RowFits : Row → Type 0
RowFits (EventRow time name key fields) = (time < 2 ^ 63) × FieldsFit fields
RowFits (BeatRow time) = time < 2 ^ 63
RowFits EndRow = ⊤

number_within : (limit : ℕ) (digits : List ℕ) (n : ℕ) → number_of limit digits ≡ Some n → n ≤ limit
unfolding number_of
number_within limit digits n e =
    by (not (length digits == 0) && list_all is_ascii_digit digits && nat_le (digits_value 10 digits) limit) refl e
  where
    by : (b : Bool) → (not (length digits == 0) && list_all is_ascii_digit digits && nat_le (digits_value 10 digits) limit) ≡ b
        → cond b (Some (digits_value 10 digits)) None ≡ Some n → n ≤ limit
    by true is f =
        let same : digits_value 10 digits ≡ n = cc in
        let small = true_le (digits_value 10 digits) limit
        (and_right (not (length digits == 0) && list_all is_ascii_digit digits) (nat_le (digits_value 10 digits) limit) is) in
        omega (arith, same, small)
    by false is f = absurd cc

value_word : (text : List ℕ) (v : ℤ) → value_of text ≡ Some v → IsWord v
unfolding value_of
value_word text v e = by (slice_index text 0 == 45) e
  where
    below : (o : Option ℕ) → ((n : ℕ) → o ≡ Some n → n ≤ 2 ^ 63) → option_map (λ n. neg_ℤ (pos n)) o ≡ Some v → IsWord v
    below None small f = absurd cc
    below (Some zero) small f = let same : pos 0 ≡ v = cc in subst IsWord same (omega arith)
    below (Some (suc n)) small f =
        let same : negsuc n ≡ v = cc in
        let few = small (suc n) refl in
        let word : IsWord (negsuc n) = omega (arith, few) in
        subst IsWord same word

    above : (o : Option ℕ) → ((n : ℕ) → o ≡ Some n → n ≤ 2 ^ 63 - 1) → option_map (λ n. pos n) o ≡ Some v → IsWord v
    above None small f = absurd cc
    above (Some n) small f =
        let same : pos n ≡ v = cc in
        let few = small n refl in
        let word : IsWord (pos n) = omega (arith, few) in
        subst IsWord same word

    by : (b : Bool)
        → cond b (option_map (λ n. neg_ℤ (pos n)) (number_of (2 ^ 63) (drop 1 text))) (option_map (λ n. pos n) (number_of (2 ^ 63 - 1) text)) ≡ Some v
        → IsWord v
    by true f = below (number_of (2 ^ 63) (drop 1 text)) (number_within (2 ^ 63) (drop 1 text)) f
    by false f = above (number_of (2 ^ 63 - 1) text) (number_within (2 ^ 63 - 1) text) f

two_fit : TimesAreInRange → (form : RowForm) (time tag : List ℕ) → IfSome (row_of_two form time tag) RowFits
unfolding row_of_two
two_fit times form time tag = by_time (time_of form time) (times form time)
  where
    by_tag : (t : ℕ) → t < 2 ^ 63 → (o : Option (List ℕ × Option ℕ)) → IfSome (option_and_then (λ k. Some (EventRow t k.0 k.1 Nothing)) o) RowFits
    by_tag t small None = tt
    by_tag t small (Some k) = (small, tt)

    by_beat : (t : ℕ) → t < 2 ^ 63 → (b : Bool)
        → IfSome (cond b (Some (BeatRow t)) (option_and_then (λ k. Some (EventRow t k.0 k.1 Nothing)) (tag_of tag))) RowFits
    by_beat t small true = small
    by_beat t small false = by_tag t small (tag_of tag)

    by_time : (o : Option ℕ) → ((n : ℕ) → o ≡ Some n → n < 2 ^ 63)
        → IfSome (option_and_then (λ t. cond (bytes_eq tag (codes "beat")) (Some (BeatRow t))
        (option_and_then (λ k. Some (EventRow t k.0 k.1 Nothing)) (tag_of tag))) o) RowFits
    by_time None small = tt
    by_time (Some t) small = by_beat t (small t refl) (bytes_eq tag (codes "beat"))

-- the fields behind a tag
number_fits : (item : Option ℕ) (o : Option ℤ) → IfSome o IsWord → FieldsFit (number_field item o)
number_fits item None word = tt
number_fits item (Some v) word = word

value_fits : (text : List ℕ) → IfSome (value_of text) IsWord
value_fits text = by (value_of text) (value_word text)
  where
    by : (o : Option ℤ) → ((v : ℤ) → o ≡ Some v → IsWord v) → IfSome o IsWord
    by None word = tt
    by (Some v) word = word v refl

-- a number, or an item by its name
by_fits : (list : Option Numbering) (text : List ℕ) → FieldsFit (field_by list text)
by_fits None text = number_fits (item_of text) (value_of text) (value_fits text)
by_fits (Some list) text = tt

one_fits : (form : RowForm) (name text : List ℕ) → IfSome (one_field form name text) FieldsFit
one_fits Older name text = by (value_of text) (value_fits text)
  where
    by : (o : Option ℤ) → IfSome o IsWord → IfSome (option_map (λ v. One None v) o) FieldsFit
    by None word = tt
    by (Some v) word = word
one_fits (WithItems iso lists) name text = by_fits (items_named lists name) text

two_numbers_fit : (item : Option ℕ) (o : Option ℤ) → IfSome o IsWord → FieldsFit (number_fields item o)
two_numbers_fit None o word = tt
two_numbers_fit (Some i) None word = tt
two_numbers_fit (Some i) (Some v) word = word

named_fit : (item : Option ℕ) (o : Option ℤ) → IfSome o IsWord → FieldsFit (named_fields item o)
named_fit item None word = tt
named_fit item (Some v) word = word

two_fits : (list : Option Numbering) (first second : List ℕ) → FieldsFit (fields_by list first second)
two_fits None first second = two_numbers_fit (item_of first) (value_of second) (value_fits second)
two_fits (Some list) first second = named_fit (named_item list first) (value_of second) (value_fits second)

-- a row with fields
module _ (times : TimesAreInRange) (form : RowForm) (time tag : List ℕ) (found : List ℕ → Option Fields)
    (fits : (name : List ℕ) → IfSome (found name) FieldsFit) where
  with_fields : Option Row
  with_fields = option_and_then (λ t. option_and_then (λ k. option_and_then (λ f. Some (EventRow t k.0 k.1 f)) (found k.0)) (tag_of tag)) (time_of form time)

  fields_row : IfSome with_fields RowFits
  unfolding with_fields
  fields_row = by_time (time_of form time) (times form time)
    where
      by_fields : (t : ℕ) (k : List ℕ × Option ℕ) → t < 2 ^ 63 → (o : Option Fields) → IfSome o FieldsFit
          → IfSome (option_and_then (λ f. Some (EventRow t k.0 k.1 f)) o) RowFits
      by_fields t k small None fit = tt
      by_fields t k small (Some f) fit = (small, fit)

      by_tag : (t : ℕ) → t < 2 ^ 63 → (o : Option (List ℕ × Option ℕ))
          → IfSome (option_and_then (λ k. option_and_then (λ f. Some (EventRow t k.0 k.1 f)) (found k.0)) o) RowFits
      by_tag t small None = tt
      by_tag t small (Some k) = by_fields t k small (found k.0) (fits k.0)

      by_time : (o : Option ℕ) → ((n : ℕ) → o ≡ Some n → n < 2 ^ 63)
          → IfSome (option_and_then (λ t. option_and_then (λ k. option_and_then (λ f. Some (EventRow t k.0 k.1 f)) (found k.0)) (tag_of tag)) o) RowFits
      by_time None small = tt
      by_time (Some t) small = by_tag t (small t refl) (tag_of tag)

three_fit : TimesAreInRange → (form : RowForm) (time tag third : List ℕ) → IfSome (row_of_three form time tag third) RowFits
unfolding row_of_three with_fields
three_fit times form time tag third = fields_row times form time tag (λ name. one_field form name third) (λ name. one_fits form name third)

four_fit : TimesAreInRange → (form : RowForm) (time tag third fourth : List ℕ) → IfSome (row_of_four form time tag third fourth) RowFits
unfolding row_of_four with_fields
four_fit times Older time tag third fourth = tt
four_fit times (WithItems iso lists) time tag third fourth =
    fields_row times (WithItems iso lists) time tag (λ name. Some (two_fields lists name third fourth)) (λ name. two_fits (items_named lists name) third fourth)

row_fits : TimesAreInRange → (form : RowForm) (fields : List (List ℕ)) → IfSome (row_of form fields) RowFits
unfolding row_of
row_fits times form [] = tt
row_fits times form (a ∷ []) = elim (bytes_eq a (codes "end")) as (λ b. IfSome (cond b (Some EndRow) None) RowFits) [ true ↦ tt | false ↦ tt ]
row_fits times form (a ∷ b ∷ []) = two_fit times form a b
row_fits times form (a ∷ b ∷ c ∷ []) = three_fit times form a b c
row_fits times form (a ∷ b ∷ c ∷ d ∷ []) = four_fit times form a b c d
row_fits times form (a ∷ b ∷ c ∷ d ∷ e ∷ more) = tt

-- ---- lines
abbrev pub NextFits : Next → Type 0
NextFits (RowNext number row) = RowFits row
NextFits (Bad number) = ⊤
NextFits TooManyLines = ⊤
NextFits (Done number) = ⊤

abbrev AllFit : List Next → Type 0
AllFit lines = AllByRecursion NextFits lines

-- a line before others
module _ (times : TimesAreInRange) (form : RowForm) (number : ℕ) (behind : List Next) (all : AllByRecursion NextFits behind) where
  row_read : (o : Option Row) → IfSome o RowFits → AllFit (read_line (line_of_row o) number behind)
  row_read None fits = (tt, tt)
  row_read (Some row) fits = (fits, all)

  fields_read : (fs : List (List ℕ)) → AllFit (read_line (line_of_fields form fs) number behind)
  unfolding line_of_fields
  fields_read fs =
      elim (filled_len fs == 0) as (λ b. AllFit (read_line (cond b (line_of_records form None)
      (line_of_row (row_of form (take (filled_len fs) fs)))) number behind)) [
        | true ↦ all
        | false ↦ row_read (row_of form (take (filled_len fs) fs)) (row_fits times form (take (filled_len fs) fs))
      ]

  one_read : (fs : List (List ℕ)) (o : Option _) → AllFit (read_line (line_of_one form fs o) number behind)
  one_read fs None = fields_read fs
  one_read fs (Some more) = (tt, tt)

  records_read : (o : Option _) → AllFit (read_line (line_of_records form o) number behind)
  records_read None = all
  records_read (Some read) = one_read read.0 (record_after read)

  line_read : (line : List ℕ) → AllFit (read_line (line_of form number line) number behind)
  unfolding line_of
  line_read line =
      elim (nat_lt 4096 (length line)) as
      (λ b. AllFit (read_line (cond b (line_of_row None) (cond (not (number == 1) && begins_with_mark line) (line_of_row None)
      (line_of_records form (first_record line)))) number behind)) [
        | true ↦ (tt, tt)
        | false ↦ elim (not (number == 1) && begins_with_mark line) as (λ b. AllFit (read_line (cond b (line_of_row None)
            (line_of_records form (first_record line))) number behind)) [
              | true ↦ (tt, tt)
              | false ↦ records_read (first_record line)
            ]
      ]

lines_read : TimesAreInRange → (form : RowForm) (before : ℕ) (lines : List (List ℕ)) → AllFit (read_lines form before lines)
unfolding read_lines
lines_read times form before [] = (tt, tt)
lines_read times form before (line ∷ lines) =
    elim (before + 1 == 2 ^ 32) as (λ b. AllFit
    (cond b (TooManyLines ∷ []) (read_line (line_of form (before + 1) line) (before + 1) (read_lines form (before + 1) lines)))) [
      | true ↦ (tt, tt)
      | false ↦ line_read times form (before + 1) (read_lines form (before + 1) lines) (lines_read times form (before + 1) lines) line
    ]

pub file_read : TimesAreInRange → (form : RowForm) (bytes : List ℕ) → AllByRecursion NextFits (read_file form bytes)
file_read times form bytes = lines_read times form 0 (lines_of bytes)

-- ---- the rows that were read
rows_read : (lines : List Next) → AllByRecursion NextFits lines → AllByRecursion RowFits (rows_of lines)
rows_read [] all = tt
rows_read (RowNext number row ∷ lines) all = (all.0, rows_read lines all.1)
rows_read (Bad number ∷ lines) all = rows_read lines all.1
rows_read (TooManyLines ∷ lines) all = rows_read lines all.1
rows_read (Done number ∷ lines) all = rows_read lines all.1

-- their greatest time is below 2^63
times_low : (rows : List Row) → AllByRecursion RowFits rows → AllByRecursion (λ t. t < 2 ^ 63) (times_of rows)
times_low [] all = tt
times_low (EventRow time name key fields ∷ rows) all = (all.0.0, times_low rows all.1)
times_low (BeatRow time ∷ rows) all = (all.0, times_low rows all.1)
times_low (EndRow ∷ rows) all = times_low rows all.1

greatest_low : (ts : List ℕ) (u : ℕ) → AllByRecursion (λ t. t < 2 ^ 63) ts → greatest ts ≡ Some u → u < 2 ^ 63
greatest_low [] u all e = absurd cc
greatest_low (t ∷ ts) u all e = by (greatest ts) (λ v f. greatest_low ts v all.1 f) e
  where
    by : (o : Option ℕ) → ((v : ℕ) → o ≡ Some v → v < 2 ^ 63) → Some (max t (unwrap_or o 0)) ≡ Some u → u < 2 ^ 63
    by None low f = let same : max t 0 ≡ u = cc in omega (arith, same, all.0)
    by (Some v) low f = let same : max t v ≡ u = cc in let few = low v refl in omega (arith, same, few, all.0)

pub latest_low : (lines : List Next) (u : ℕ) → AllByRecursion NextFits lines → greatest (times_of (rows_of lines)) ≡ Some u → u < 2 ^ 63
latest_low lines u all e = greatest_low (times_of (rows_of lines)) u (times_low (rows_of lines) (rows_read lines all)) e

-- ---- the events of a run
-- where a time has so many moments: a time below 2^63, and a value of 64 bits
abbrev pub EventFits : ℕ → Event → Type 0
EventFits scale x = (x.time / scale < 2 ^ 63) × IsWord x.value

abbrev ItemFits : ℕ → Item → Type 0
ItemFits scale (EventItem x) = EventFits scale x
ItemFits scale (BeatItem t) = ⊤
ItemFits scale EndItem = ⊤

-- a row at its moment
abbrev FitsAt : ℕ → Row → Type 0
FitsAt scale (EventRow time name key fields) = (time / scale < 2 ^ 63) × FieldsFit fields
FitsAt scale (BeatRow time) = ⊤
FitsAt scale EndRow = ⊤

fit_at : (timing : Timing) (is : IsTiming timing) (earlier : List ℕ) (rows : List Row) → AllByRecursion RowFits rows
    → AllByRecursion (FitsAt timing.scale) (at_moments timing earlier rows)
fit_at timing is earlier [] all = tt
fit_at timing is earlier (EventRow time name key fields ∷ rows) all =
    ((subst (λ t. t < 2 ^ 63) (sym (time_of-moment timing is time (times time earlier))) all.0.0, all.0.1), fit_at timing is (earlier ++ time ∷ []) rows all.1)
fit_at timing is earlier (BeatRow time ∷ rows) all = (tt, fit_at timing is (earlier ++ time ∷ []) rows all.1)
fit_at timing is earlier (EndRow ∷ rows) all = (tt, fit_at timing is (earlier ++ []) rows all.1)

-- what a row gives its event
given_fits : (has_item has_value : Bool) (fields : Fields) → FieldsFit fields → IsWord (unwrap_or (given has_item has_value fields) (0, pos 0)).1
given_fits true has_value Nothing fits = omega arith
given_fits false true Nothing fits = omega arith
given_fits false false Nothing fits = omega arith
given_fits false false (One item value) fits = omega arith
given_fits false true (One item value) fits = fits
given_fits true false (One None value) fits = omega arith
given_fits true false (One (Some i) value) fits = omega arith
given_fits true true (One item value) fits = omega arith
given_fits false has_value (Two item value) fits = omega arith
given_fits true false (Two item value) fits = omega arith
given_fits true true (Two item value) fits = fits
given_fits false has_value (Named item) fits = omega arith
given_fits true false (Named item) fits = omega arith
given_fits true true (Named item) fits = omega arith
given_fits false has_value (NamedWith item value) fits = omega arith
given_fits true false (NamedWith item value) fits = omega arith
given_fits true true (NamedWith item value) fits = fits
given_fits has_item has_value Other fits = omega arith

value_given : (kind : Option Kind) (fields : Fields) → FieldsFit fields → IsWord (unwrap_or (given_by kind fields) (0, pos 0)).1
value_given None fields fits = omega arith
value_given (Some kind) fields fits = given_fits kind.has_item kind.has_value fields fits

item_fits : (scale : ℕ) (kinds : List Kind) (s : Source) (first place : ℕ) (row : Row) → FitsAt scale row
    → IfSome (item_in kinds s first place row) (ItemFits scale)
item_fits scale kinds s first place (EventRow time name key fields) fits =
    elim (unwrap_or (option_map (λ n. n == place) (place_named kinds s name key)) false) as (λ b. IfSome (cond b
    (Some (EventItem (event_of time (first + place) (given_to kinds name fields)))) None) (ItemFits scale)) [
      | true ↦ (fits.0, value_given _ fields fits.1)
      | false ↦ tt
    ]
item_fits scale kinds s first place (BeatRow time) fits = tt
item_fits scale kinds s first place EndRow fits = tt

all_filter_map : {X Y : Type 0} (P : X → Type 0) (Q : Y → Type 0) (f : X → Option Y) → ((x : X) → P x → IfSome (f x) Q) → (xs : List X)
    → AllByRecursion P xs → AllByRecursion Q (filter_map f xs)
all_filter_map P Q f each [] all = tt
all_filter_map {X} {Y} P Q f each (x ∷ xs) all = by (f x) refl (each x all.0) (all_filter_map P Q f each xs all.1)
  where
    by : (o : Option Y) → f x ≡ o → IfSome o Q → AllByRecursion Q (filter_map f xs) → AllByRecursion Q (filter_map f (x ∷ xs))
    by None e here more = rw e more
    by (Some y) e here more = rw e (here, more)

items_fit : (scale : ℕ) (kinds : List Kind) (s : Source) (first : ℕ) (rows : List Row) (place : ℕ) → AllByRecursion (FitsAt scale) rows
    → AllByRecursion (ItemFits scale) (items_at kinds s first rows place)
items_fit scale kinds s first rows place all =
    all_append (ItemFits scale) (filter_map (item_in kinds s first place) (in_time_order rows)) (EndItem ∷ [])
    (all_filter_map (FitsAt scale) (ItemFits scale) (item_in kinds s first place) (item_fits scale kinds s first place) (in_time_order rows)
    (all_in_order (FitsAt scale) (is_less time_at) rows all)) (tt, tt)

abbrev ListFits : ℕ → List Item → Type 0
ListFits scale items = AllByRecursion (ItemFits scale) items

all_mapped : {X Y : Type 0} (Q : Y → Type 0) (f : X → Y) → ((x : X) → Q (f x)) → (xs : List X) → AllByRecursion Q (map f xs)
all_mapped Q f each [] = tt
all_mapped Q f each (x ∷ xs) = (each x, all_mapped Q f each xs)

lists_fit : (timing : Timing) (is : IsTiming timing) (kinds : List Kind) (s : Source) (first : ℕ) (rows : List Row) → AllByRecursion RowFits rows
    → AllByRecursion (ListFits timing.scale) (lists_of_rows timing kinds s first rows)
lists_fit timing is kinds s first rows all =
    all_mapped (ListFits timing.scale) (items_at kinds s first (at_moments timing [] rows))
    (λ place. items_fit timing.scale kinds s first (at_moments timing [] rows) place (fit_at timing is [] rows all)) (range_with_len 0 (width s))

-- the tick of a clock at a time
tick_fits : (timing : Timing) (is : IsTiming timing) (itag time : ℕ) → time < 2 ^ 63 → ItemFits timing.scale (tick_at timing itag time)
tick_fits timing is itag time lt = (subst (λ t. t < 2 ^ 63) (sym (time_of-moment timing is time 0)) lt, omega arith)

ticks_fit : (timing : Timing) (is : IsTiming timing) (s : Source) (first : ℕ) (ticks : List ℕ) → AllByRecursion (λ t. t < 2 ^ 63) ticks
    → AllByRecursion (ListFits timing.scale) (lists_of_ticks timing s first ticks)
ticks_fit timing is s first ticks low =
    all_mapped (ListFits timing.scale) (λ place. items_of_ticks timing (first + place) ticks)
    (λ place. all_append (ItemFits timing.scale) (map (tick_at timing (first + place)) ticks) (EndItem ∷ [])
    (all_images (ItemFits timing.scale) (tick_at timing (first + place)) ticks
    (all_map (λ t. t < 2 ^ 63) (λ t. ItemFits timing.scale (tick_at timing (first + place) t)) ticks (tick_fits timing is (first + place)) low))
    (tt, tt))
    (range_with_len 0 (width s))

-- the lines of each source fit, by its number, and have no defect, so that no tick is too late
pub record LinesFit (p : Program) (reads : ℕ → List Next) : Type 0 where
  pub each : AtEach (λ i s. AllByRecursion NextFits (reads i)) p.sources
  pub sound : AreSound p reads

at_seam : {X : Type 0} (before after : List X) (x : X) → slice_get (before ++ x ∷ after) (length before) ≡ Some x
at_seam [] after x = refl
at_seam (y ∷ before) after x = at_seam before after x

module _ (p : Program) (above : Option ℕ) (end : Border) (reads : ℕ → List Next) (fit : LinesFit p reads) where
  abbrev one_source : (List Source × Source) → List (List Item)
  one_source e = lists_of_source p (rows_between above end (rows_of (reads (length e.0)))) (ticks_between p above end reads e) e

  -- of rows, or of the ticks of a clock
  source_fits : (before : List Source) (s : Source) → slice_get p.sources (length before) ≡ Some s
      → AllByRecursion (ListFits (moments_a_time p)) (one_source (before, s))
  source_fits before s here =
      let timing = timing_of p (length before) in
      let first = sum_by width before in
      let is = timing_fits p (length before) (slice_get_within p.sources (length before) s here) in
      let rows = rows_of (reads (length before)) in
      elim (is_clock s) as (λ b. AllByRecursion (ListFits (moments_a_time p))
      (if b then lists_of_ticks timing s first (ticks_between p above end reads (before, s))
      else lists_of_rows timing p.kinds s first (rows_between above end rows))) [
        | true ↦ ticks_fit timing is s first (ticks_between p above end reads (before, s)) (between_low p reads fit.sound before s here above end)
        | false ↦ lists_fit timing is p.kinds s first (rows_between above end rows)
            (all_filter RowFits (is_between above end) rows
            (all_map RowFits (λ row. is_between above end row ≡ true → RowFits row) rows (λ row fits e. fits)
            (rows_read (reads (length before)) (fit.each (length before) s here))))
      ]

  each_source : (before : List Source) (ss : List Source) → p.sources ≡ before ++ ss
      → AllByRecursion (λ e. AllByRecursion (ListFits (moments_a_time p)) (one_source e)) (with_before before ss)
  each_source before [] same = tt
  each_source before (s ∷ ss) same =
      let here : slice_get p.sources (length before) ≡ Some s = ap (λ (xs : List Source). slice_get xs (length before)) same ∙ at_seam before ss s in (
        source_fits before s here,
        each_source (before ++ s ∷ []) ss (same ∙ sym (append_assoc before (s ∷ []) ss)),
      )

  pub lists_between_fit : AllByRecursion (ListFits (moments_a_time p)) (lists_between p above end reads)
  lists_between_fit = all_flat (ListFits (moments_a_time p)) one_source (each_with_before p.sources) (each_source [] p.sources refl)

events_fit : (scale : ℕ) (items : List Item) → ListFits scale items → AllByRecursion (EventFits scale) (events_of items)
events_fit scale [] all = tt
events_fit scale (EventItem x ∷ items) all = (all.0, events_fit scale items all.1)
events_fit scale (BeatItem t ∷ items) all = events_fit scale items all.1
events_fit scale (EndItem ∷ items) all = events_fit scale items all.1

pub all_events_fit : (scale : ℕ) (lists : List (List Item)) → AllByRecursion (ListFits scale) lists → AllByRecursion (EventFits scale) (all_events lists)
all_events_fit scale lists all =
    all_flat (EventFits scale) events_of lists
    (all_map (ListFits scale) (λ items. AllByRecursion (EventFits scale) (events_of items)) lists (events_fit scale) all)

-- THE EVENTS between two borders of lines that fit
pub merged_fit : (p : Program) (above : Option ℕ) (end : Border) (reads : ℕ → List Next) → LinesFit p reads
    → AllByRecursion (EventFits (moments_a_time p)) (merged (lists_between p above end reads))
merged_fit p above end reads fit =
    all_in_order (EventFits (moments_a_time p)) is_before (all_events (lists_between p above end reads))
    (all_events_fit (moments_a_time p) (lists_between p above end reads) (lists_between_fit p above end reads fit))
