-- Programs of one job read the same of the same files.
use Rattle.std.proofs.Common.{◌≡◌, refl, sym, ap, ◌∙◌, ℕ, ◌+◌, ◌/◌, ◌^◌, min, ◌==◌, ℤ, List, [], ◌∷◌, ◌++◌, length, Bool, false, map, Option, Some, None}
use Rattle.std.specs.Prelude.{option_map, option_and_then, unwrap_or, is_none, is_some, not, slice_get, sum_by, if◌then◌else◌, ◌*◌, max}
use Rattle.std.specs.List.{position, filter_map, flat_map, range_with_len}
use Rattle.std.specs.Option.{option_map_or}
use Rattle.std.proofs.Math.Path.{fun_ext}
use Rattle.std.proofs.lemmas.Option.{slice_get-map}
use Rattle.flu_lemmas.proofs.Places.{position-map}
use Rattle.flu_calendar.specs.declared.unit.Unit.{Unit}
use Rattle.flu_calendar.specs.Units.{times_end}
use Rattle.flu_model.specs.declared.events.Item.TheVariants.{Event as EventItem, End as EndItem}
use Rattle.flu_model.specs.declared.events.Tag.{Tag}
use Rattle.flu_model.specs.declared.jobs.Kind.{Kind}
use Rattle.flu_model.specs.declared.jobs.Program.{Program}
use Rattle.flu_model.specs.declared.jobs.Source.{Source}
use Rattle.flu_model.specs.declared.moments.Timing.{Timing}
use Rattle.flu_model.specs.Erasure.{PlainKind, plain_kind, Job, IsSameJob}
use Rattle.flu_model.specs.Listing.{tag, tags_of_source}
use Rattle.flu_model.specs.Moments.{end_with_clocks}
use Rattle.flu_model.specs.Rules.{is_same_text, is_same_tag, is_clock}
use Rattle.flu_moments.specs.Clocks.{ticks_among}
use Rattle.flu_moments.specs.Moments.{moment}
use Rattle.flu_outside.specs.Outside.{Contents}
use Rattle.flu_rows.specs.declared.row.RowForm.{RowForm}
use Rattle.flu_rows.specs.declared.row.Fields.{Fields}
use Rattle.flu_rows.specs.declared.row.Row.{Row}
use Rattle.flu_rows.specs.declared.row.Row.TheVariants.{Event, Beat, End}
use Rattle.flu_rows.specs.declared.rows.Next.{Next}
use Rattle.flu_rows.specs.declared.rows.Next.TheVariants.{Row as RowNext, Bad, TooManyLines, Done}
use Rattle.flu_rows.specs.Row.{form_of}
use Rattle.flu_rows.specs.Reading.{read_file}
use Rattle.flu_streams.specs.declared.faults.SourceFault.{SourceFault}
use Rattle.flu_streams.specs.declared.faults.Why.{Why}
use Rattle.flu_streams.specs.declared.faults.Why.TheVariants.{BadRow, UnknownTag, UnknownItem, AfterEnd}
use Rattle.flu_streams.specs.Before.{each_with_before, first_some, or_else}
use Rattle.flu_streams.specs.Clocks.{Declared, lists_of_ticks, count_of_ticks, fault_of_ticks}
use Rattle.flu_streams.specs.Good.{lines_in, rows_in, items_held, event_of, item_in, at_moments, in_time_order, lists_of_rows, ranks_in, lists_beside, first_fault_beside}
use Rattle.flu_streams.specs.OneJob.{ReadRowsAlike, ReadTheSame}
use Rattle.flu_streams.specs.Rounds.{row_fault, line_defect, defect_in}
use Rattle.flu_streams.specs.Tags.{kind_named, key_named, tag_named, place_named, given, given_by, given_to, is_known, width}
use Rattle.flu_streams.specs.Tests.{where_true, test_range, test_time, test_items, tests, defect_of, first_of, first_defect, has_ended, times_of, items_of}
use Rattle.flu_streams.specs.Tests.{rows_of}

-- ---- what a row's tag and fields are tested by depends on the kinds without their actions
kind_of_plain : List PlainKind → List ℕ → Option ℕ
kind_of_plain kinds name = position (λ (k : PlainKind). is_same_text k.name name) kinds

kind_plain : (kinds : List Kind) (name : List ℕ) → kind_named kinds name ≡ kind_of_plain (map plain_kind kinds) name
unfolding kind_of_plain
kind_plain kinds name = sym (position-map (λ (k : PlainKind). is_same_text k.name name) plain_kind kinds)

tag_at : ℕ → Option ℕ → Option PlainKind → Option Tag
tag_at number key None = None
tag_at number key (Some kind) = option_and_then (λ n. Some (tag number n)) (key_named kind.keyed key)

tag_of_plain : List PlainKind → List ℕ → Option ℕ → Option Tag
tag_of_plain kinds name key = option_and_then (λ number. tag_at number key (slice_get kinds number)) (kind_of_plain kinds name)

tag_plain : (kinds : List Kind) (name : List ℕ) (key : Option ℕ) → tag_named kinds name key ≡ tag_of_plain (map plain_kind kinds) name key
unfolding tag_of_plain tag_at
tag_plain kinds name key =
    ap (λ o. option_and_then (λ number. option_and_then (λ (kind : Kind). option_and_then (λ n. Some (tag number n)) (key_named kind.keyed key))
    (slice_get kinds number)) o) (kind_plain kinds name)
    ∙ ap (λ f. option_and_then f (kind_of_plain (map plain_kind kinds) name))
    (fun_ext (λ number. at number (slice_get kinds number) ∙ ap (tag_at number key) (sym (slice_get-map plain_kind kinds number))))
  where
    at : (number : ℕ) (o : Option Kind) → option_and_then (λ (kind : Kind). option_and_then (λ n. Some (tag number n)) (key_named kind.keyed key)) o
        ≡ tag_at number key (option_map plain_kind o)
    at number None = refl
    at number (Some kind) = refl

given_at : Fields → Option PlainKind → Option (ℕ × ℤ)
given_at fields None = None
given_at fields (Some kind) = given kind.has_item kind.has_value fields

given_plain : (kinds : List Kind) (name : List ℕ) (fields : Fields) → given_to kinds name fields
    ≡ given_at fields (option_and_then (λ number. slice_get (map plain_kind kinds) number) (kind_of_plain (map plain_kind kinds) name))
unfolding given_at
given_plain kinds name fields =
    ap (λ o. given_by (option_and_then (λ number. slice_get kinds number) o) fields) (kind_plain kinds name)
    ∙ (at (option_and_then (λ number. slice_get kinds number) named)
    ∙ ap (given_at fields) (inside named ∙ ap (λ f. option_and_then f named) (fun_ext (λ number. sym (slice_get-map plain_kind kinds number)))))
  where
    named : Option ℕ
    named = kind_of_plain (map plain_kind kinds) name

    at : (o : Option Kind) → given_by o fields ≡ given_at fields (option_map plain_kind o)
    at None = refl
    at (Some kind) = refl

    inside : (o : Option ℕ) → option_map plain_kind (option_and_then (λ number. slice_get kinds number) o)
        ≡ option_and_then (λ number. option_map plain_kind (slice_get kinds number)) o
    inside None = refl
    inside (Some number) = refl

module _ (kinds others : List Kind) (alike : map plain_kind kinds ≡ map plain_kind others) where
  same_place : (s : Source) (name : List ℕ) (key : Option ℕ) → place_named kinds s name key ≡ place_named others s name key
  same_place s name key =
      ap (λ o. option_and_then (λ t. position (is_same_tag t) (tags_of_source s)) o)
      (tag_plain kinds name key ∙ (ap (λ ks. tag_of_plain ks name key) alike ∙ sym (tag_plain others name key)))

  same_given : (name : List ℕ) (fields : Fields) → given_to kinds name fields ≡ given_to others name fields
  same_given name fields =
      given_plain kinds name fields
      ∙ (ap (λ (ks : List PlainKind). given_at fields (option_and_then (λ number. slice_get ks number) (kind_of_plain ks name))) alike
      ∙ sym (given_plain others name fields))

  -- ---- so do the tests, and the first defect
  same_tests : (timing : Timing) (s : Source) (ended : Bool) (earlier : List ℕ) (held : ℕ) (row : Row)
      → tests timing kinds s ended earlier held row ≡ tests timing others s ended earlier held row
  same_tests timing s ended earlier held (Event time name key fields) = λ j.
      where_true ended AfterEnd ∷ test_range timing (Event time name key fields) ∷ where_true (is_none (same_place s name key j)) UnknownTag
      ∷ where_true (not (is_some (same_given name fields j))) BadRow ∷ where_true (not (is_known fields)) UnknownItem
      ∷ test_time timing s.slack earlier (Event time name key fields) ∷ test_items (width s) held (Event time name key fields) ∷ []
  same_tests timing s ended earlier held (Beat time) = refl
  same_tests timing s ended earlier held End = refl

  same_defect : (timing : Timing) (s : Source) (held : ℕ) (read : List Next) (next : Next)
      → defect_of timing kinds s held read next ≡ defect_of timing others s held read next
  same_defect timing s held read (RowNext line row) =
      ap (λ ts. option_map (λ why. (line, why)) (first_some (λ (test : Option Why). test) ts))
      (same_tests timing s (has_ended (rows_of read)) (times_of (rows_of read)) (held + items_of (width s) (rows_of read)) row)
  same_defect timing s held read (Bad line) = refl
  same_defect timing s held read TooManyLines = refl
  same_defect timing s held read (Done lines) = refl

  same_first_defect : (timing : Timing) (form : RowForm) → first_defect timing form kinds ≡ first_defect timing form others
  same_first_defect timing form = λ j s held bytes.
      first_some (λ (e : List Next × Next). same_defect timing s held e.0 e.1 j) (each_with_before (read_file form bytes))

  same_first_of : (timing : Timing) → first_of timing kinds ≡ first_of timing others
  same_first_of timing = λ j s held read. first_some (λ (e : List Next × Next). same_defect timing s held e.0 e.1 j) (each_with_before read)

  -- ---- and the defects of lines
  same_row_fault : (timing : Timing) (s : Source) (ended : Bool) (earlier : List ℕ) (row : Row)
      → row_fault timing kinds s ended earlier row ≡ row_fault timing others s ended earlier row
  same_row_fault timing s ended earlier (Event time name key fields) = λ j.
      first_some (λ (test : Option Why). test) (where_true ended AfterEnd ∷ test_range timing (Event time name key fields)
      ∷ where_true (is_none (same_place s name key j)) UnknownTag
      ∷ where_true (not (is_some (same_given name fields j))) BadRow ∷ where_true (not (is_known fields)) UnknownItem
      ∷ test_time timing s.slack earlier (Event time name key fields) ∷ [])
  same_row_fault timing s ended earlier (Beat time) = refl
  same_row_fault timing s ended earlier End = refl

  same_line_defect : (timing : Timing) (s : Source) (read : List Next) (next : Next)
      → line_defect timing kinds s read next ≡ line_defect timing others s read next
  same_line_defect timing s read (RowNext line row) =
      ap (option_map (λ (why : Why). (line, why))) (same_row_fault timing s (has_ended (rows_of read)) (times_of (rows_of read)) row)
  same_line_defect timing s read (Bad line) = refl
  same_line_defect timing s read TooManyLines = refl
  same_line_defect timing s read (Done lines) = refl

  same_in_lines : (timing : Timing) → defect_in timing kinds ≡ defect_in timing others
  same_in_lines timing = λ j s lines. first_some (λ (e : List Next × Next). same_line_defect timing s e.0 e.1 j) (each_with_before lines)

  -- ---- the lists of items
  same_item : (s : Source) (first place : ℕ) (row : Row) → item_in kinds s first place row ≡ item_in others s first place row
  same_item s first place (Event time name key fields) = λ j.
      if unwrap_or (option_map (λ n. n == place) (same_place s name key j)) false
      then Some (EventItem (event_of time (first + place) (same_given name fields j)))
      else None
  same_item s first place (Beat time) = refl
  same_item s first place End = refl

  same_row_lists : (timing : Timing) → lists_of_rows timing kinds ≡ lists_of_rows timing others
  same_row_lists timing = λ j s first rows.
      map (λ place. filter_map (λ row. same_item s first place row j) (in_time_order (at_moments timing [] rows)) ++ EndItem ∷ []) (range_with_len 0 (width s))

  rows_alike : ReadRowsAlike kinds others
  rows_alike = record { defects = same_first_defect; in_lines = same_in_lines; lists = same_row_lists }

-- ---- the sources of a job
-- how the rows of a source are numbered depends on the job alone
abbrev scale_in : Job → ℕ
scale_in j = if j.version == 3 then max 1 (length j.sources) * j.ties else 1

abbrev limit_in : Job → ℕ
limit_in j = option_map_or (λ (unit : Unit). min (2 ^ 63 / scale_in j) (times_end unit)) j.iso (2 ^ 63 / scale_in j)

abbrev pub timing_in : Job → ℕ → Timing
timing_in j number = record {
  several = j.version == 3;
  scale = if j.version == 3 then max 1 (length j.sources) * j.ties else 1;
  offset = if j.version == 3 then number * j.ties else 0;
  ties = j.ties;
  end = end_with_clocks (limit_in j) j.sources;
}

-- and so do the ticks of a clock among the rows of the files
abbrev ranks_by : Job → Contents → List ℕ
ranks_by j left =
    flat_map (λ (e : Declared). map (λ time. moment (length j.sources) 1 time (length e.0) 0) (times_of (rows_in (form_of j) left e.1)))
    (each_with_before j.sources)

abbrev ticks_by : Job → List ℕ → Contents → Declared → List ℕ
ticks_by j beside left e = option_map_or (λ every. ticks_among (length j.sources) 1 every (length e.0) (beside ++ ranks_by j left)) e.1.every []

abbrev clock_fault : Job → List ℕ → Contents → Option SourceFault
clock_fault j beside left =
    first_some (λ (e : Declared). fault_of_ticks (length e.0) (items_held (form_of j) left j.sources + count_of_ticks (ticks_by j beside left) e.0)
    (ticks_by j beside left e))
    (each_with_before j.sources)

module _ (p q : Program) (same : IsSameJob p q) where
  alike_rows : ReadRowsAlike p.kinds q.kinds
  alike_rows = rows_alike p.kinds q.kinds (ap (λ j. j.kinds) same)

  alike_lines : (timing : Timing) → first_of timing p.kinds ≡ first_of timing q.kinds
  alike_lines = same_first_of p.kinds q.kinds (ap (λ j. j.kinds) same)

  same_ranks : ranks_in p ≡ ranks_in q
  same_ranks = λ i left. ranks_by (same i) left

  same_faults : first_fault_beside p ≡ first_fault_beside q
  same_faults = λ i beside left. or_else
      (first_some (λ (e : Declared). option_map (λ (d : ℕ × Why). record { source = length e.0; row = d.0; why = d.1 })
      (alike_lines (timing_in (same i) (length e.0)) i e.1 (items_held (form_of (same i)) left e.0) (lines_in (form_of (same i)) left e.1)))
      (each_with_before (same i).sources))
      (clock_fault (same i) beside left)

  same_lists : lists_beside p ≡ lists_beside q
  same_lists = λ i beside left. flat_map (λ (e : Declared).
      if is_clock e.1 then lists_of_ticks (timing_in (same i) (length e.0)) e.1 (sum_by width e.0) (ticks_by (same i) beside left e)
      else alike_rows.lists (timing_in (same i) (length e.0)) i e.1 (sum_by width e.0) (rows_in (form_of (same i)) left e.1))
      (each_with_before (same i).sources)

pub jobs_read_the_same : (p q : Program) → IsSameJob p q → ReadTheSame p q
jobs_read_the_same p q same = record {
  rows = alike_rows p q same;
  ranks = same_ranks p q same;
  faults = same_faults p q same;
  lists = same_lists p q same;
}
