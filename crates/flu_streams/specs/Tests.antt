-- The tests that the lines of a source have to pass, and its first defect (`docs/LANGUAGE.md`, "Rows").
use Rattle.std.specs.Prelude.{ℕ, ◌+◌, ◌^◌, max, min, Bool, true, false, not, nat_lt, nat_le, Option, Some, None, is_none, option_map, unwrap_or, List}
use Rattle.std.specs.Prelude.{[], ◌∷◌, if◌then◌else◌, sum_by}
use Rattle.std.specs.List.{list_any, filter_map}
use Rattle.flu_lemmas.specs.Counting.{times}
use Rattle.flu_model.specs.declared.moments.Timing.{Timing}
use Rattle.flu_model.specs.declared.jobs.Kind.{Kind}
use Rattle.flu_model.specs.declared.jobs.Source.{Source}
use Rattle.flu_rows.specs.declared.row.RowForm.{RowForm}
use Rattle.flu_rows.specs.declared.row.Fields.{Fields}
use Rattle.flu_rows.specs.declared.row.Row.{Row}
use Rattle.flu_rows.specs.declared.row.Row.TheVariants.{Event, Beat, End}
use Rattle.flu_rows.specs.declared.rows.Next.{Next}
use Rattle.flu_rows.specs.declared.rows.Next.TheVariants.{Row as RowNext, Bad, TooManyLines, Done}
use Rattle.flu_rows.specs.Reading.{read_file}
use Rattle.flu_streams.specs.declared.faults.Why.{Why}
use Rattle.flu_streams.specs.declared.faults.Why.TheVariants.{BadRow, UnknownTag, UnknownItem, Disordered, Unclosed, AfterEnd, TooMany}
use Rattle.flu_streams.specs.Before.{each_with_before, first_some, or_else}
use Rattle.flu_streams.specs.Tags.{place_named, fields_fit, is_known, width}

-- ---- what some rows have
abbrev pub row_in : Next → Option Row
row_in (RowNext line row) = Some row
row_in (Bad line) = None
row_in TooManyLines = None
row_in (Done lines) = None

-- the rows that were read
abbrev pub rows_of : List Next → List Row
rows_of read = filter_map row_in read

abbrev pub is_end : Row → Bool
is_end (Event time name key fields) = false
is_end (Beat time) = false
is_end End = true

abbrev pub has_ended : List Row → Bool
has_ended rows = list_any is_end rows

abbrev pub time_in : Row → Option ℕ
time_in (Event time name key fields) = Some time
time_in (Beat time) = Some time
time_in End = None

-- the times of some rows, events and heartbeats together
abbrev pub times_of : List Row → List ℕ
times_of rows = filter_map time_in rows

-- the greatest of some times
abbrev pub greatest : List ℕ → Option ℕ
greatest [] = None
greatest (t ∷ ts) = Some (max t (unwrap_or (greatest ts) 0))

-- the least of some times
abbrev pub least : List ℕ → Option ℕ
least [] = None
least (t ∷ ts) = Some (min t (unwrap_or (least ts) t))

-- how many items a row has in a source of this many itags: an event is one, and a heartbeat is one for each itag
abbrev pub items_in : ℕ → Row → ℕ
items_in itags (Event time name key fields) = 1
items_in itags (Beat time) = itags
items_in itags End = 0

abbrev pub items_of : ℕ → List Row → ℕ
items_of itags rows = sum_by (items_in itags) rows

-- ---- the tests
abbrev pub where_true : Bool → Why → Option Why
where_true true why = Some why
where_true false why = None

-- a time is below the end of times
abbrev pub has_moments : Timing → Option ℕ → Bool
has_moments timing None = true
has_moments timing (Some time) = nat_lt time timing.end

abbrev pub test_range : Timing → Row → Option Why
test_range timing row = where_true (not (has_moments timing (time_in row))) BadRow

-- which rule an event breaks by its tag and its fields alone
abbrev pub faults_of_event : List Kind → Source → List ℕ → Option ℕ → Fields → Option Why
faults_of_event kinds s name key fields =
    first_some (λ test. test) (where_true (is_none (place_named kinds s name key)) UnknownTag ∷ where_true (not (fields_fit kinds name fields)) BadRow
    ∷ where_true (not (is_known fields)) UnknownItem ∷ [])

-- the source lists the tag
abbrev pub test_tag : List Kind → Source → Row → Option Why
test_tag kinds s (Event time name key fields) = where_true (is_none (place_named kinds s name key)) UnknownTag
test_tag kinds s (Beat time) = None
test_tag kinds s End = None

-- the fields behind the tag are those that its kind has
abbrev pub test_fields : List Kind → Row → Option Why
test_fields kinds (Event time name key fields) = where_true (not (fields_fit kinds name fields)) BadRow
test_fields kinds (Beat time) = None
test_fields kinds End = None

-- an item that is given by its name is in its kind's list
abbrev pub test_item : Row → Option Why
test_item (Event time name key fields) = where_true (not (is_known fields)) UnknownItem
test_item (Beat time) = None
test_item End = None

-- how far a time is behind the greatest one that no row may have any more: by the slack; and by one more where a row may have the time of
-- another, since rows at the last time that is in the slack may still come
abbrev pub margin : Timing → ℕ → ℕ
margin timing slack = if timing.several then slack + 1 else slack

-- the fault of a time that too many earlier rows have
abbrev pub same_time : Timing → ℕ → ℕ → Why
same_time timing last time = if timing.several then TooMany (timing.ties + 1) else Disordered last time

-- a time is above the greatest earlier one less the slack, or where rows may have one time, not below that; and fewer earlier rows have it than may
abbrev pub test_behind : Timing → ℕ → List ℕ → Option ℕ → ℕ → Option Why
test_behind timing slack earlier None time = None
test_behind timing slack earlier (Some last) time =
    or_else (where_true (nat_le (time + margin timing slack) last) (Disordered last time))
    (where_true (nat_le timing.ties (times time earlier)) (same_time timing last time))

abbrev pub test_times : Timing → ℕ → List ℕ → Option ℕ → Option Why
test_times timing slack earlier None = None
test_times timing slack earlier (Some time) = test_behind timing slack earlier (greatest earlier) time

abbrev pub test_time : Timing → ℕ → List ℕ → Row → Option Why
test_time timing slack earlier row = test_times timing slack earlier (time_in row)

-- no more than 16,777,216 items are held
abbrev pub test_items : ℕ → ℕ → Row → Option Why
test_items itags held row = where_true (nat_lt 16777216 (held + items_in itags row)) (TooMany 16777217)

-- the tests of a row in their order, by whether the source has ended, by its times so far, and by how many items are held
abbrev pub tests : Timing → List Kind → Source → Bool → List ℕ → ℕ → Row → List (Option Why)
tests timing kinds s ended earlier held row =
    where_true ended AfterEnd ∷ test_range timing row ∷ test_tag kinds s row ∷ test_fields kinds row ∷ test_item row
    ∷ test_time timing s.slack earlier row ∷ test_items (width s) held row ∷ []

-- the first test that fails
abbrev pub fault_of : Timing → List Kind → Source → Bool → List ℕ → ℕ → Row → Option Why
fault_of timing kinds s ended earlier held row = first_some (λ test. test) (tests timing kinds s ended earlier held row)

-- ---- the first defect
-- the defect of a line or of the file's end after these lines, while this many items are held of other sources
abbrev pub defect_of : Timing → List Kind → Source → ℕ → List Next → Next → Option (ℕ × Why)
defect_of timing kinds s held read (RowNext line row) =
    option_map (λ why. (line, why))
    (fault_of timing kinds s (has_ended (rows_of read)) (times_of (rows_of read)) (held + items_of (width s) (rows_of read)) row)
defect_of timing kinds s held read (Bad line) = Some (line, (if has_ended (rows_of read) then AfterEnd else BadRow))
defect_of timing kinds s held read TooManyLines = Some (2 ^ 32, TooMany (2 ^ 32))
defect_of timing kinds s held read (Done lines) = if has_ended (rows_of read) then None else Some (lines + 1, Unclosed)

-- the first defect of what is read of a source
abbrev pub first_of : Timing → List Kind → Source → ℕ → List Next → Option (ℕ × Why)
first_of timing kinds s held read = first_some (λ e. defect_of timing kinds s held e.0 e.1) (each_with_before read)

-- THE FIRST DEFECT OF A SOURCE whose file has these bytes, in rows of this form: its line and the test that it fails
abbrev pub first_defect : Timing → RowForm → List Kind → Source → ℕ → List ℕ → Option (ℕ × Why)
first_defect timing form kinds s held bytes = first_of timing kinds s held (read_file form bytes)
