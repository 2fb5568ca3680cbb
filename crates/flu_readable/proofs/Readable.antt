-- The rows of files have times and values in range, and there are few of them; so have the lists that they give.
use Rattle.std.proofs.Common.{◌≡◌, ◌<◌, ◌≤◌, ◌+◌, ◌*◌, ◌-◌, ◌^◌, ℕ, zero, suc, ℤ, pos, Bool, true, false, cond, Option, Some, None, List, []}
use Rattle.std.proofs.Common.{◌∷◌, ◌++◌, ◌/◌, ◌∙◌, length, map, refl, sym, ap, subst, append_assoc, arith, drop, take}
use lib.Signed.{mag}
use Rattle.std.specs.Prelude.{◌==◌, ◌&&◌, nat_le, nat_lt, not, neg_ℤ, slice_get, option_and_then, option_map, slice_index, sum_by, unwrap_or, FitsSigned, codes, IfSome}
use Rattle.std.specs.Prelude.{⊤, if◌then◌else◌}
use Rattle.std.specs.Char.{is_ascii_digit}
use Rattle.std.specs.Int.{w64}
use Rattle.std.specs.List.{cons_option, filter_map, flat_map, list_all, range_with_len, AllByRecursion}
use Rattle.std.specs.Str.{bytes_eq}
use Rattle.std.specs.Str.Parse.{digits_value}
use Rattle.std.proofs.lemmas.Bool.Decides.{nat_tests}
use Rattle.std.proofs.lemmas.List.{length-append}
use Rattle.flu_model.specs.Erasure.{job_of}
use Rattle.flu_lemmas.specs.Late.{is_less}
use Rattle.flu_lemmas.specs.Sorting.{put_in_order, in_order}
use Rattle.flu_lemmas.proofs.Elements.{all_append}
use Rattle.flu_lemmas.proofs.Tests.{true_le}
use Rattle.flu_model.specs.declared.events.Event.{Event as EventOf}
use Rattle.flu_model.specs.declared.events.Item.{Item}
use Rattle.flu_model.specs.declared.events.Item.TheVariants.{Event as EventItem, Beat as BeatItem, End as EndItem}
use Rattle.flu_model.specs.declared.jobs.Kind.{Kind}
use Rattle.flu_model.specs.declared.jobs.Program.{Program}
use Rattle.flu_model.specs.declared.jobs.Source.{Source}
use Rattle.flu_model.specs.Numberings.{Numbering}
use Rattle.flu_model.specs.declared.moments.Timing.{Timing}
use Rattle.flu_model.specs.Merging.{events_of, all_events}
use Rattle.flu_model.specs.Moments.{timing_of}
use Rattle.flu_model.specs.Rules.{is_clock}
use Rattle.flu_outside.specs.Outside.{Contents}
use Rattle.flu_outside.specs.Taking.{bytes_left}
use Rattle.flu_partial.specs.Partial.{IsTime}
use Rattle.flu_rows.specs.declared.row.Fields.{Fields}
use Rattle.flu_rows.specs.declared.row.Fields.TheVariants.{Nothing, One, Two, Named, NamedWith, Other}
use Rattle.flu_rows.specs.declared.row.Row.{Row}
use Rattle.flu_rows.specs.declared.row.Row.TheVariants.{Event, Beat, End}
use Rattle.flu_rows.specs.declared.row.RowForm.{RowForm}
use Rattle.flu_rows.specs.declared.row.RowForm.TheVariants.{Older, WithItems}
use Rattle.flu_rows.specs.declared.rows.Next.TheVariants.{TooManyLines}
use Rattle.flu_rows.specs.declared.rows.Next.{Next}
use Rattle.flu_rows.specs.Fields.{number_of, time_of, item_of, value_of, tag_of}
use Rattle.flu_rows.specs.Laws.{TimesAreInRange}
use Rattle.flu_rows.specs.Lines.{begins_with_mark, line_of, line_of_row, line_of_fields, line_of_one, line_of_records, lines_of}
use Rattle.flu_rows.specs.Reading.{read_line, read_lines, read_file}
use Rattle.flu_rows.specs.Records.{first_record, record_after}
use Rattle.flu_rows.specs.ItemNames.{items_named, named_item}
use Rattle.flu_rows.specs.Row.{form_of, number_field, number_fields, named_fields, field_by, fields_by, one_field, two_fields, filled_len}
use Rattle.flu_rows.specs.Row.{row_of, row_of_two, row_of_three, row_of_four}
use Rattle.flu_sending.specs.Lines.{times_of, all_times}
use Rattle.flu_selected.specs.Laws.{LawOfLength}
use Rattle.flu_streams.specs.declared.faults.SourceFault.{SourceFault}
use Rattle.flu_streams.specs.Before.{with_before, or_else, first_some}
use Rattle.flu_streams.specs.Good.{lines_in, rows_in, items_held, fault_of_source, fault_of_rows, fault_of_clocks, event_of, item_in, time_at, at_moments}
use Rattle.flu_streams.specs.Good.{items_at, lists_of_rows, lists_of}
use Rattle.flu_streams.specs.Tags.{place_named, given, given_by, given_to, width}
use Rattle.flu_streams.specs.Tests.{rows_of, times_of as row_times, first_of}
use Rattle.std.proofs.lemmas.Option.{slice_get_within}
use Rattle.flu_model.specs.Moments.{IsTiming, limit_of_times}
use Rattle.flu_streams.specs.declared.faults.Why.TheVariants.{TooMany}
use Rattle.flu_streams.specs.Clocks.{items_of_ticks, lists_of_ticks, count_of_ticks, fault_of_ticks}
use Rattle.flu_streams.specs.Good.{lists_of_source, ticks_in}
use Rattle.flu_streams.proofs.ClockTimes.{limit_within}
use Rattle.flu_streams.proofs.Moments.{timing_fits}
use Rattle.flu_streams.proofs.TickItems.{tick_fits}
use Rattle.flu_streams.proofs.Ticking.{size_of_ticks}
use Rattle.flu_readable.proofs.Ranks.{clock_early, slice_here}
use Rattle.flu_streams.proofs.Ranges.{IsLow, moments_low, good_range}
use Rattle.flu_readable.specs.Laws.{WhatIsReadIsReadable}

-- a number of 64 bits
abbrev IsWord : ℤ → Type 0
IsWord z = FitsSigned w64 z

-- ---- the fields of rows
number_when : (limit : ℕ) (digits : List ℕ) → IfSome (number_of limit digits) (λ n. n ≤ limit)
unfolding number_of
number_when limit digits = by (not (length digits == 0) && list_all is_ascii_digit digits) (nat_le (digits_value 10 digits) limit) refl
  where
    by : (a b : Bool) → nat_le (digits_value 10 digits) limit ≡ b → IfSome (cond (a && b) (Some (digits_value 10 digits)) None) (λ n. n ≤ limit)
    by true true e = true_le (digits_value 10 digits) limit e
    by true false e = tt
    by false b e = tt

time_field : TimesAreInRange → (form : RowForm) (text : List ℕ) → IfSome (time_of form text) IsTime
time_field times form text = by (time_of form text) (times form text)
  where
    by : (o : Option ℕ) → ((t : ℕ) → o ≡ Some t → t < 2 ^ 63) → IfSome o IsTime
    by None low = tt
    by (Some t) low = low t refl

negative_word : (n : ℕ) → n ≤ 2 ^ 63 → mag (neg_ℤ (pos n)) < 2 ^ 63
negative_word zero h = omega arith
negative_word (suc n) h = omega (arith, h)

value_when : (text : List ℕ) → IfSome (value_of text) IsWord
unfolding value_of
value_when text =
    by (slice_index text 0 == 45) (number_of (2 ^ 63) (drop 1 text)) (number_when (2 ^ 63) (drop 1 text)) (number_of (2 ^ 63 - 1) text)
    (number_when (2 ^ 63 - 1) text)
  where
    by : (b : Bool) (m : Option ℕ) → IfSome m (λ n. n ≤ 2 ^ 63) → (n : Option ℕ) → IfSome n (λ n. n ≤ 2 ^ 63 - 1)
        → IfSome (cond b (option_map (λ n. neg_ℤ (pos n)) m) (option_map (λ n. pos n) n)) IsWord
    by true None h n k = tt
    by true (Some m) h n k = record { sfits = negative_word m h }
    by false m h None k = tt
    by false m h (Some n) k = record { sfits = omega (arith, k) }

abbrev HasWord : Fields → Type 0
HasWord Nothing = ⊤
HasWord (One item value) = IsWord value
HasWord (Two item value) = IsWord value
HasWord (Named item) = ⊤
HasWord (NamedWith item value) = IsWord value
HasWord Other = ⊤

one_number : (item : Option ℕ) (value : Option ℤ) → IfSome value IsWord → HasWord (number_field item value)
one_number item None h = tt
one_number item (Some value) h = h

two_numbers : (item : Option ℕ) (value : Option ℤ) → IfSome value IsWord → HasWord (number_fields item value)
two_numbers None value h = tt
two_numbers (Some item) None h = tt
two_numbers (Some item) (Some value) h = h

named_number : (item : Option ℕ) (value : Option ℤ) → IfSome value IsWord → HasWord (named_fields item value)
named_number item None h = tt
named_number item (Some value) h = h

field_when : (list : Option Numbering) (text : List ℕ) → HasWord (field_by list text)
field_when None text = one_number (item_of text) (value_of text) (value_when text)
field_when (Some list) text = tt

fields_when : (list : Option Numbering) (first second : List ℕ) → HasWord (fields_by list first second)
fields_when None first second = two_numbers (item_of first) (value_of second) (value_when second)
fields_when (Some list) first second = named_number (named_item list first) (value_of second) (value_when second)

older_number : (value : Option ℤ) → IfSome value IsWord → IfSome (option_map (λ value. One None value) value) HasWord
older_number None h = tt
older_number (Some value) h = h

one_when : (form : RowForm) (text name : List ℕ) → IfSome (one_field form name text) HasWord
one_when Older text name = older_number (value_of text) (value_when text)
one_when (WithItems iso lists) text name = field_when (items_named lists name) text

-- ---- rows
abbrev IsRight : Row → Type 0
IsRight (Event time name key fields) = IsTime time × HasWord fields
IsRight (Beat time) = IsTime time
IsRight End = ⊤

two_when : (o : Option ℕ) → IfSome o IsTime → (b : Bool) (q : Option (List ℕ × Option ℕ))
    → IfSome (option_and_then (λ t. cond b (Some (Beat t)) (option_and_then (λ k. Some (Event t k.0 k.1 Nothing)) q)) o) IsRight
two_when None h b q = tt
two_when (Some t) h true q = h
two_when (Some t) h false None = tt
two_when (Some t) h false (Some k) = (h, tt)

three_when : (o : Option ℕ) → IfSome o IsTime → (q : Option (List ℕ × Option ℕ)) (r : List ℕ → Option Fields)
    → ((name : List ℕ) → IfSome (r name) HasWord)
    → IfSome (option_and_then (λ t. option_and_then (λ k. option_and_then (λ f. Some (Event t k.0 k.1 f)) (r k.0)) q) o) IsRight
three_when None h q r w = tt
three_when (Some t) h None r w = tt
three_when (Some t) h (Some k) r w = by (r k.0) (w k.0)
  where
    by : (f : Option Fields) → IfSome f HasWord → IfSome (option_and_then (λ f. Some (Event t k.0 k.1 f)) f) IsRight
    by None w = tt
    by (Some f) w = (h, w)

four_when : (o : Option ℕ) → IfSome o IsTime → (q : Option (List ℕ × Option ℕ)) (f : List ℕ → Fields) → ((name : List ℕ) → HasWord (f name))
    → IfSome (option_and_then (λ t. option_and_then (λ k. Some (Event t k.0 k.1 (f k.0))) q) o) IsRight
four_when None h q f w = tt
four_when (Some t) h None f w = tt
four_when (Some t) h (Some k) f w = (h, w k.0)

end_when : (b : Bool) → IfSome (cond b (Some End) None) IsRight
end_when true = tt
end_when false = tt

row_four : TimesAreInRange → (form : RowForm) (a b c d : List ℕ) → IfSome (row_of_four form a b c d) IsRight
unfolding row_of_four
row_four times Older a b c d = tt
row_four times (WithItems iso lists) a b c d =
    four_when (time_of (WithItems iso lists) a) (time_field times (WithItems iso lists) a) (tag_of b) (λ name. two_fields lists name c d)
    (λ name. fields_when (items_named lists name) c d)

row_when : TimesAreInRange → (form : RowForm) (fields : List (List ℕ)) → IfSome (row_of form fields) IsRight
unfolding row_of row_of_two row_of_three
row_when times form [] = tt
row_when times form (a ∷ []) = end_when (bytes_eq a (codes "end"))
row_when times form (a ∷ b ∷ []) = two_when (time_of form a) (time_field times form a) (bytes_eq b (codes "beat")) (tag_of b)
row_when times form (a ∷ b ∷ c ∷ []) = three_when (time_of form a) (time_field times form a) (tag_of b) (λ name. one_field form name c) (one_when form c)
row_when times form (a ∷ b ∷ c ∷ d ∷ []) = row_four times form a b c d
row_when times form (a ∷ b ∷ c ∷ d ∷ e ∷ more) = tt

-- ---- lines
-- what is read of lines, with this many before them, has right rows, and fewer than lines are counted
abbrev AreRightFrom : ℕ → List Next → Type 0
AreRightFrom before lines = AllByRecursion IsRight (rows_of lines) × (length (rows_of lines) + before < 2 ^ 32)

-- a line before others
module _ (times : TimesAreInRange) (form : RowForm) (before : ℕ) (behind : List Next) (low : before < 2 ^ 32) (right : AreRightFrom (before + 1) behind) where
  bad_read : AreRightFrom before (TooManyLines ∷ [])
  bad_read = (tt, omega (arith, low))

  blank_read : AreRightFrom before behind
  blank_read = let few = right.1 in (right.0, omega (arith, few))

  row_read : (o : Option Row) → IfSome o IsRight → AreRightFrom before (read_line (line_of_row o) (before + 1) behind)
  row_read None is = bad_read
  row_read (Some row) is = let few = right.1 in ((is, right.0), omega (arith, few))

  fields_read : (fields : List (List ℕ)) → AreRightFrom before (read_line (line_of_fields form fields) (before + 1) behind)
  unfolding line_of_fields
  fields_read fields =
      elim (filled_len fields == 0) as (λ b. AreRightFrom before (read_line (cond b (line_of_records form None)
      (line_of_row (row_of form (take (filled_len fields) fields)))) (before + 1) behind)) [
        | true ↦ blank_read
        | false ↦ row_read (row_of form (take (filled_len fields) fields)) (row_when times form (take (filled_len fields) fields))
      ]

  one_read : (fields : List (List ℕ)) (o : Option _) → AreRightFrom before (read_line (line_of_one form fields o) (before + 1) behind)
  one_read fields None = fields_read fields
  one_read fields (Some more) = bad_read

  records_read : (o : Option _) → AreRightFrom before (read_line (line_of_records form o) (before + 1) behind)
  records_read None = blank_read
  records_read (Some read) = one_read read.0 (record_after read)

  line_read : (line : List ℕ) → AreRightFrom before (read_line (line_of form (before + 1) line) (before + 1) behind)
  unfolding line_of
  line_read line =
      elim (nat_lt 4096 (length line)) as (λ b. AreRightFrom before (read_line (cond b (line_of_row None)
      (cond (not (before + 1 == 1) && begins_with_mark line) (line_of_row None) (line_of_records form (first_record line)))) (before + 1) behind)) [
        | true ↦ bad_read
        | false ↦ elim (not (before + 1 == 1) && begins_with_mark line) as (λ b. AreRightFrom before (read_line (cond b (line_of_row None)
            (line_of_records form (first_record line))) (before + 1) behind)) [
              | true ↦ bad_read
              | false ↦ records_read (first_record line)
            ]
      ]

lines_read : TimesAreInRange → (form : RowForm) (before : ℕ) (lines : List (List ℕ)) → before < 2 ^ 32 → AreRightFrom before (read_lines form before lines)
unfolding read_lines
lines_read times form before [] low = (tt, omega (arith, low))
lines_read times form before (line ∷ lines) low = by (before + 1 == 2 ^ 32) refl (lines_read times form (before + 1) lines)
  where
    not_last : (before + 1 == 2 ^ 32) ≡ false → before + 1 < 2 ^ 32
    not_last e = grind (arith, nat_tests)

    by : (b : Bool) → (before + 1 == 2 ^ 32) ≡ b → (before + 1 < 2 ^ 32 → AreRightFrom (before + 1) (read_lines form (before + 1) lines))
        → AreRightFrom before (cond b (TooManyLines ∷ []) (read_line (line_of form (before + 1) line) (before + 1) (read_lines form (before + 1) lines)))
    by true e more = (tt, omega (arith, low))
    by false e more = line_read times form before (read_lines form (before + 1) lines) low (more (not_last e)) line

-- of a source, whose lines are those of its file; a clock has none
source_read : TimesAreInRange → (form : RowForm) (left : Contents) (s : Source) → AreRightFrom 0 (lines_in form left s)
source_read times form left s = by (is_clock s)
  where
    by : (b : Bool) → AreRightFrom 0 (if b then [] else read_file form (bytes_left left s.file))
    by true = (tt, omega arith)
    by false = lines_read times form 0 (lines_of (bytes_left left s.file)) (omega arith)

-- ---- items
abbrev IsRightItem : Item → Type 0
IsRightItem (EventItem x) = IsTime x.time × IsWord x.value
IsRightItem (BeatItem t) = IsTime t
IsRightItem EndItem = ⊤

zero_word : IsWord (pos 0)
zero_word = record { sfits = omega arith }

given_word : (a b : Bool) (f : Fields) → HasWord f → IfSome (given a b f) (λ (g : ℕ × ℤ). IsWord g.1)
given_word true b Nothing h = tt
given_word false true Nothing h = tt
given_word false false Nothing h = zero_word
given_word false false (One item value) h = tt
given_word false true (One item value) h = h
given_word true false (One None value) h = tt
given_word true false (One (Some item) value) h = zero_word
given_word true true (One item value) h = tt
given_word true true (Two item value) h = h
given_word true false (Two item value) h = tt
given_word false b (Two item value) h = tt
given_word true true (Named item) h = tt
given_word true false (Named item) h = zero_word
given_word false b (Named item) h = tt
given_word true true (NamedWith item value) h = h
given_word true false (NamedWith item value) h = tt
given_word false b (NamedWith item value) h = tt
given_word a b Other h = tt

by_word : (o : Option Kind) (f : Fields) → HasWord f → IfSome (given_by o f) (λ (g : ℕ × ℤ). IsWord g.1)
by_word None f h = tt
by_word (Some k) f h = given_word k.has_item k.has_value f h

value_word : (o : Option (ℕ × ℤ)) → IfSome o (λ (g : ℕ × ℤ). IsWord g.1) → IsWord (unwrap_or o (0, pos 0)).1
value_word None h = zero_word
value_word (Some g) h = h

item_right : (kinds : List Kind) (s : Source) (first place : ℕ) (row : Row) → IsRight row → IfSome (item_in kinds s first place row) IsRightItem
item_right kinds s first place (Event time name key fields) right =
    by (unwrap_or (option_map (λ n. n == place) (place_named kinds s name key)) false)
  where
    by : (b : Bool) → IfSome (cond b (Some (EventItem (event_of time (first + place) (given_to kinds name fields)))) None) IsRightItem
    by true = (right.0, value_word (given_to kinds name fields) (by_word _ fields right.1))
    by false = tt
item_right kinds s first place (Beat time) right = right
item_right kinds s first place End right = tt

module _ {X Y : Type 0} (P : X → Type 0) (Q : Y → Type 0) (f : X → Option Y) (each : (x : X) → P x → IfSome (f x) Q) where
  filtered : (xs : List X) → AllByRecursion P xs → AllByRecursion Q (filter_map f xs)
  filtered [] all = tt
  filtered (x ∷ xs) all = by (f x) (each x all.0) (filter_map f xs) (filtered xs all.1)
    where
      by : (o : Option Y) → IfSome o Q → (ys : List Y) → AllByRecursion Q ys → AllByRecursion Q (cons_option o ys)
      by None h ys more = more
      by (Some y) h ys more = (h, more)

module _ {X Y : Type 0} (f : X → Option Y) where
  filtered_few : (xs : List X) → length (filter_map f xs) ≤ length xs
  filtered_few [] = omega arith
  filtered_few (x ∷ xs) = by (f x) (filter_map f xs) (filtered_few xs)
    where
      by : (o : Option Y) (ys : List Y) → length ys ≤ length xs → length (cons_option o ys) ≤ length (x ∷ xs)
      by None ys h = omega (arith, h)
      by (Some y) ys h = omega (arith, h)

put_all : {X : Type 0} (P : X → Type 0) (before : X → X → Bool) (x : X) (ys : List X) → P x → AllByRecursion P ys → AllByRecursion P (put_in_order before x ys)
put_all P before x [] px all = (px, tt)
put_all P before x (y ∷ ys) px all =
    elim (before x y) as (λ b. AllByRecursion P (cond b (x ∷ y ∷ ys) (y ∷ put_in_order before x ys))) [
      | true ↦ (px, all)
      | false ↦ (all.0, put_all P before x ys px all.1)
    ]

all_in_order : {X : Type 0} (P : X → Type 0) (before : X → X → Bool) (xs : List X) → AllByRecursion P xs → AllByRecursion P (in_order before xs)
all_in_order P before [] all = tt
all_in_order P before (x ∷ xs) all = put_all P before x (in_order before xs) all.0 (all_in_order P before xs all.1)

put_length : {X : Type 0} (before : X → X → Bool) (x : X) (ys : List X) → length (put_in_order before x ys) ≡ length ys + 1
put_length before x [] = omega arith
put_length before x (y ∷ ys) =
    elim (before x y) as (λ b. length (cond b (x ∷ y ∷ ys) (y ∷ put_in_order before x ys)) ≡ length (y ∷ ys) + 1) [
      | true ↦ omega arith
      | false ↦ (let more = put_length before x ys in omega (arith, more))
    ]

order_length : {X : Type 0} (before : X → X → Bool) (xs : List X) → length (in_order before xs) ≡ length xs
order_length before [] = refl
order_length before (x ∷ xs) = let put = put_length before x (in_order before xs) in let more = order_length before xs in omega (arith, put, more)

events_few : (items : List Item) → length (events_of items) ≤ length items
events_few [] = omega arith
events_few (EventItem x ∷ items) = let more = events_few items in omega (arith, more)
events_few (BeatItem t ∷ items) = let more = events_few items in omega (arith, more)
events_few (EndItem ∷ items) = let more = events_few items in omega (arith, more)

-- ---- lists of items
record IsRightList (items : List Item) : Type 0 where
  right : AllByRecursion IsRightItem items
  few : length (events_of items) ≤ 2 ^ 32

list_right : (kinds : List Kind) (s : Source) (first : ℕ) (rows : List Row) (place : ℕ) → AllByRecursion IsRight rows → length rows < 2 ^ 32
    → IsRightList (items_at kinds s first rows place)
list_right kinds s first rows place all few =
    let ordered = in_order (is_less time_at) rows in
    let items = filter_map (item_in kinds s first place) ordered in
    let less = filtered_few (item_in kinds s first place) ordered in
    let size = order_length (is_less time_at) rows in
    let whole = length-append items (EndItem ∷ []) in
    let events = events_few (items ++ EndItem ∷ []) in
    record {
      right = all_append IsRightItem items (EndItem ∷ [])
          (filtered IsRight IsRightItem (item_in kinds s first place) (item_right kinds s first place) ordered
          (all_in_order IsRight (is_less time_at) rows all))
          (tt, tt);
      few = omega (arith, few, less, size, whole, events);
    }

lists_right : (kinds : List Kind) (s : Source) (first : ℕ) (rows : List Row) (places : List ℕ) → AllByRecursion IsRight rows → length rows < 2 ^ 32
    → AllByRecursion IsRightList (map (items_at kinds s first rows) places)
lists_right kinds s first rows [] all few = tt
lists_right kinds s first rows (place ∷ places) all few =
    (list_right kinds s first rows place all few, lists_right kinds s first rows places all few)

-- the same rows at their moments
right_at : (timing : Timing) (earlier : List ℕ) (rows : List Row) → AllByRecursion IsRight rows → AllByRecursion IsLow (at_moments timing earlier rows)
    → AllByRecursion IsRight (at_moments timing earlier rows)
right_at timing earlier [] all low = tt
right_at timing earlier (Event time name key fields ∷ rows) all low = ((low.0, all.0.1), right_at timing (earlier ++ time ∷ []) rows all.1 low.1)
right_at timing earlier (Beat time ∷ rows) all low = (low.0, right_at timing (earlier ++ time ∷ []) rows all.1 low.1)
right_at timing earlier (End ∷ rows) all low = (tt, right_at timing (earlier ++ []) rows all.1 low.1)

length_at : (timing : Timing) (earlier : List ℕ) (rows : List Row) → length (at_moments timing earlier rows) ≡ length rows
length_at timing earlier [] = refl
length_at timing earlier (row ∷ rows) = ap suc (length_at timing (earlier ++ row_times (row ∷ [])) rows)

none_first : {X : Type 0} (a b : Option X) → or_else a b ≡ None → (a ≡ None) × (b ≡ None)
none_first None b e = (refl, e)
none_first (Some x) b e = cc

none_mapped : {X Y : Type 0} (f : X → Y) (o : Option X) → option_map f o ≡ None → o ≡ None
none_mapped f None e = refl
none_mapped f (Some x) e = cc

module _ (times : TimesAreInRange) (p : Program) (left : Contents) where
  abbrev lists_from : List Source × Source → List (List Item)
  lists_from e = lists_of_rows (timing_of p (length e.0)) p.kinds e.1 (sum_by width e.0) (rows_in (form_of (job_of p)) left e.1)

  abbrev fault_in : List Source × Source → Option SourceFault
  fault_in e = fault_of_source (timing_of p) (form_of (job_of p)) p.kinds left e.0 e.1

  source_right : (e : List Source × Source) → length e.0 < length p.sources → fault_in e ≡ None → AllByRecursion IsRightList (lists_from e)
  source_right e lt none =
      let form = form_of (job_of p) in
      let timing = timing_of p (length e.0) in
      let held = items_held form left e.0 in
      let rows = rows_in form left e.1 in
      let right = source_read times form left e.1 in
      let few = right.1 in
      let sound : first_of timing p.kinds e.1 held (lines_in form left e.1) ≡ None =
      none_mapped _ (first_of timing p.kinds e.1 held (lines_in form left e.1)) none in
      let low = moments_low timing (timing_fits p (length e.0) lt) [] rows (good_range timing p.kinds e.1 held (lines_in form left e.1) sound) in
      let many = length_at timing [] rows in
      lists_right p.kinds e.1 (sum_by width e.0) (at_moments timing [] rows) (range_with_len 0 (width e.1)) (right_at timing [] rows right.0 low)
      (omega (arith, few, many))

  sources_right : (before sources : List Source) → length before + length sources ≤ length p.sources
      → first_some fault_in (with_before before sources) ≡ None → AllByRecursion IsRightList (flat_map lists_from (with_before before sources))
  sources_right before [] few none = tt
  sources_right before (s ∷ sources) few none =
      let parts = none_first (fault_in (before, s)) _ none in
      let past : length (before ++ s ∷ []) ≡ length before + 1 = length-append before (s ∷ []) in
      all_append IsRightList (lists_from (before, s)) (flat_map lists_from (with_before (before ++ s ∷ []) sources))
      (source_right (before, s) (omega arith) parts.0) (sources_right (before ++ s ∷ []) sources (omega arith) parts.1)

-- ---- all of them
times_right : (items : List Item) → AllByRecursion IsRightItem items → AllByRecursion IsTime (times_of items)
times_right [] all = tt
times_right (EventItem x ∷ items) all = (all.0.0, times_right items all.1)
times_right (BeatItem t ∷ items) all = (all.0, times_right items all.1)
times_right (EndItem ∷ items) all = times_right items all.1

values_right : (items : List Item) → AllByRecursion IsRightItem items → AllByRecursion (λ (x : EventOf). IsWord x.value) (events_of items)
values_right [] all = tt
values_right (EventItem x ∷ items) all = (all.0.1, values_right items all.1)
values_right (BeatItem t ∷ items) all = values_right items all.1
values_right (EndItem ∷ items) all = values_right items all.1

all_times_right : (lists : List (List Item)) → AllByRecursion IsRightList lists → AllByRecursion IsTime (all_times lists)
all_times_right [] all = tt
all_times_right (items ∷ lists) all =
    all_append IsTime (times_of items) (all_times lists) (times_right items all.0.right) (all_times_right lists all.1)

all_values_right : (lists : List (List Item)) → AllByRecursion IsRightList lists → AllByRecursion (λ (x : EventOf). IsWord x.value) (all_events lists)
all_values_right [] all = tt
all_values_right (items ∷ lists) all =
    all_append (λ (x : EventOf). IsWord x.value) (events_of items) (all_events lists) (values_right items all.0.right) (all_values_right lists all.1)

all_few : (lists : List (List Item)) → AllByRecursion IsRightList lists → length (all_events lists) ≤ length lists * 2 ^ 32
all_few [] all = omega arith
all_few (items ∷ lists) all =
    let here = all.0.few in
    let more = all_few lists all.1 in
    let whole = length-append (events_of items) (all_events lists) in
    omega (arith, here, more, whole)

-- ---- the lists of clocks
ticks_right : (timing : Timing) → IsTiming timing → (itag : ℕ) (ticks : List ℕ) → AllByRecursion (λ t. t < 2 ^ 63 / timing.scale) ticks
    → AllByRecursion IsRightItem (items_of_ticks timing itag ticks)
ticks_right timing fits itag [] all = (tt, tt)
ticks_right timing fits itag (t ∷ ticks) all =
    let low = tick_fits timing fits t all.0 in
    ((omega (arith, low), record { sfits = omega arith }), ticks_right timing fits itag ticks all.1)

tick_list_right : (timing : Timing) → IsTiming timing → (itag : ℕ) (ticks : List ℕ) → AllByRecursion (λ t. t < 2 ^ 63 / timing.scale) ticks
    → length ticks ≤ 16777216 → IsRightList (items_of_ticks timing itag ticks)
tick_list_right timing fits itag ticks all most =
    let size = size_of_ticks timing itag ticks in
    let events = events_few (items_of_ticks timing itag ticks) in
    record { right = ticks_right timing fits itag ticks all; few = omega (arith, most, size, events) }

tick_lists_right : (timing : Timing) → IsTiming timing → (first : ℕ) (ticks : List ℕ) (places : List ℕ)
    → AllByRecursion (λ t. t < 2 ^ 63 / timing.scale) ticks → length ticks ≤ 16777216
    → AllByRecursion IsRightList (map (λ place. items_of_ticks timing (first + place) ticks) places)
tick_lists_right timing fits first ticks [] all most = tt
tick_lists_right timing fits first ticks (place ∷ places) all most =
    (tick_list_right timing fits (first + place) ticks all most, tick_lists_right timing fits first ticks places all most)

-- a clock has no more ticks than may be held
no_fault : (b : Bool) (fault : SourceFault) → cond b (Some fault) None ≡ None → b ≡ false
no_fault true fault e = cc
no_fault false fault e = refl

ticks_few : (number held : ℕ) (ticks : List ℕ) → fault_of_ticks number held ticks ≡ None → length ticks ≤ 16777216
ticks_few number held ticks none =
    let fails = no_fault (nat_lt 16777216 (held + length ticks)) (record { source = number; row = 16777217 - held; why = TooMany 16777217 }) none in
    grind (arith, nat_tests)

below_limit : (limit end : ℕ) (ticks : List ℕ) → limit ≤ end → AllByRecursion (λ t. t < limit) ticks → AllByRecursion (λ t. t < end) ticks
below_limit limit end [] le all = tt
below_limit limit end (t ∷ ticks) le all = let lt = all.0 in (omega (arith, lt, le), below_limit limit end ticks le all.1)

module _ (times : TimesAreInRange) (p : Program) (left : Contents) (rows_good : fault_of_rows p left ≡ None) where
  abbrev all_from : List Source × Source → List (List Item)
  all_from e = lists_of_source p (rows_in (form_of (job_of p)) left e.1) (ticks_in p left e) e

  abbrev held_items : ℕ
  held_items = items_held (form_of (job_of p)) left p.sources

  clock_right : (e : List Source × Source) → slice_get p.sources (length e.0) ≡ Some e.1
      → fault_of_ticks (length e.0) (held_items + count_of_ticks (ticks_in p left) e.0) (ticks_in p left e) ≡ None
      → AllByRecursion IsRightList (lists_of_ticks (timing_of p (length e.0)) e.1 (sum_by width e.0) (ticks_in p left e))
  clock_right e at none =
      let timing = timing_of p (length e.0) in
      let fits = timing_fits p (length e.0) (slice_get_within p.sources (length e.0) e.1 at) in
      let early = below_limit (limit_of_times p) (2 ^ 63 / timing.scale) (ticks_in p left e) (limit_within p) (clock_early p left e.0 e.1 at rows_good) in
      tick_lists_right timing fits (sum_by width e.0) (ticks_in p left e) (range_with_len 0 (width e.1)) early
      (ticks_few (length e.0) (held_items + count_of_ticks (ticks_in p left) e.0) (ticks_in p left e) none)

  one_right : (e : List Source × Source) → slice_get p.sources (length e.0) ≡ Some e.1
      → fault_of_source (timing_of p) (form_of (job_of p)) p.kinds left e.0 e.1 ≡ None
      → fault_of_ticks (length e.0) (held_items + count_of_ticks (ticks_in p left) e.0) (ticks_in p left e) ≡ None
      → AllByRecursion IsRightList (all_from e)
  one_right e at sound few =
      elim (is_clock e.1) as (λ (b : Bool). AllByRecursion IsRightList (if b then lists_of_ticks (timing_of p (length e.0)) e.1 (sum_by width e.0) (ticks_in p left e)
      else lists_of_rows (timing_of p (length e.0)) p.kinds e.1 (sum_by width e.0) (rows_in (form_of (job_of p)) left e.1))) [
        | true ↦ clock_right e at few
        | false ↦ source_right times p left e (slice_get_within p.sources (length e.0) e.1 at) sound
      ]

  each_right : (before sources : List Source) → p.sources ≡ before ++ sources
      → first_some (λ (e : List Source × Source). fault_of_source (timing_of p) (form_of (job_of p)) p.kinds left e.0 e.1) (with_before before sources) ≡ None
      → first_some (λ (e : List Source × Source). fault_of_ticks (length e.0) (held_items + count_of_ticks (ticks_in p left) e.0) (ticks_in p left e))
      (with_before before sources) ≡ None
      → AllByRecursion IsRightList (flat_map all_from (with_before before sources))
  each_right before [] split sound few = tt
  each_right before (s ∷ sources) split sound few =
      let sounds = none_first (fault_of_source (timing_of p) (form_of (job_of p)) p.kinds left before s) _ sound in
      let fews = none_first (fault_of_ticks (length before) (held_items + count_of_ticks (ticks_in p left) before) (ticks_in p left (before, s))) _ few in
      let at : slice_get p.sources (length before) ≡ Some s = ap (λ l. slice_get l (length before)) split ∙ slice_here before sources s in
      all_append IsRightList (all_from (before, s)) (flat_map all_from (with_before (before ++ s ∷ []) sources)) (one_right (before, s) at sounds.0 fews.0)
      (each_right (before ++ s ∷ []) sources (split ∙ sym (append_assoc before (s ∷ []) sources)) sounds.1 fews.1)

pub read_is_readable : TimesAreInRange → LawOfLength → WhatIsReadIsReadable
read_is_readable times size p left good =
    let lists = lists_of p left in
    let parts = none_first (fault_of_rows p left) (fault_of_clocks p [] left) good in
    let all : AllByRecursion IsRightList lists = each_right times p left parts.0 [] p.sources refl parts.0 parts.1 in
    let few = all_few lists all in
    let one = size p [] left in
    let itags = p.few_itags in
    record { times = all_times_right lists all; values = all_values_right lists all; few = omega (arith, few, one, itags) }
