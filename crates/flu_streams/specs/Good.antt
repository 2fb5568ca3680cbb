-- Good sources, and the lists of items that they give.
use Rattle.std.specs.Prelude.{◌≡◌, ℕ, ℤ, ◌+◌, ◌==◌, pos, false, Option, Some, None, option_map, unwrap_or, List, [], ◌∷◌, ◌++◌, length, map, if◌then◌else◌}
use Rattle.std.specs.Prelude.{sum_by}
use Rattle.std.specs.List.{flat_map, filter_map, range_with_len}
use Rattle.flu_model.specs.Erasure.{job_of}
use Rattle.flu_lemmas.specs.Counting.{times}
use Rattle.flu_lemmas.specs.Late.{is_less}
use Rattle.flu_lemmas.specs.Sorting.{in_order}
use Rattle.flu_model.specs.declared.events.Event.{Event as EventOf}
use Rattle.flu_model.specs.declared.events.Item.{Item}
use Rattle.flu_model.specs.declared.events.Item.TheVariants.{Event as EventItem, Beat as BeatItem, End as EndItem}
use Rattle.flu_model.specs.declared.jobs.Kind.{Kind}
use Rattle.flu_model.specs.declared.jobs.Source.{Source}
use Rattle.flu_model.specs.declared.jobs.Program.{Program}
use Rattle.flu_model.specs.declared.moments.Timing.{Timing}
use Rattle.flu_model.specs.Moments.{timing_of, moment_at}
use Rattle.flu_model.specs.Rules.{is_clock}
use Rattle.flu_outside.specs.Outside.{Contents}
use Rattle.flu_rows.specs.declared.row.RowForm.{RowForm}
use Rattle.flu_rows.specs.declared.row.Row.{Row}
use Rattle.flu_rows.specs.declared.row.Row.TheVariants.{Event, Beat, End}
use Rattle.flu_rows.specs.declared.rows.Next.{Next}
use Rattle.flu_rows.specs.Row.{form_of}
use Rattle.flu_rows.specs.Reading.{read_file}
use Rattle.flu_outside.specs.Taking.{bytes_left}
use Rattle.flu_streams.specs.declared.faults.SourceFault.{SourceFault}
use Rattle.flu_streams.specs.Before.{each_with_before, first_some, or_else}
use Rattle.flu_streams.specs.Clocks.{Declared, ranks_among, ticks_of, lists_of_ticks, fault_among}
use Rattle.flu_streams.specs.Tags.{place_named, given_to, width}
use Rattle.flu_streams.specs.Tests.{rows_of, time_in, times_of, items_of, first_of}

-- ---- the first fault of all sources
-- the lines of a source: those of its file; a clock has none
abbrev pub lines_in : RowForm → Contents → Source → List Next
lines_in form left s = if is_clock s then [] else read_file form (bytes_left left s.file)

abbrev pub rows_in : RowForm → Contents → Source → List Row
rows_in form left s = rows_of (lines_in form left s)

-- how many items the rows of some sources have
abbrev pub items_held : RowForm → Contents → List Source → ℕ
items_held form left sources = sum_by (λ (s : Source). items_of (width s) (rows_in form left s)) sources

-- the fault of a source that comes after others: its first defect, given that the items of those are held
abbrev pub fault_of_source : (ℕ → Timing) → RowForm → List Kind → Contents → List Source → Source → Option SourceFault
fault_of_source timing form kinds left earlier s =
    option_map (λ d. record { source = length earlier; row = d.0; why = d.1 })
    (first_of (timing (length earlier)) kinds s (items_held form left earlier) (lines_in form left s))

-- the fault of the first source, as declared, whose rows have a defect
abbrev pub fault_of_rows : Program → Contents → Option SourceFault
fault_of_rows p left = first_some (λ e. fault_of_source (timing_of p) (form_of (job_of p)) p.kinds left e.0 e.1) (each_with_before p.sources)

-- where the rows of the files stand
abbrev pub ranks_in : Program → Contents → List ℕ
ranks_in p left = ranks_among p (λ d. rows_in (form_of (job_of p)) left d.1)

-- the ticks of the clocks among the rows of the files, and among rows elsewhere that stand there
abbrev pub ticks_beside : Program → List ℕ → Contents → Declared → List ℕ
ticks_beside p beside left e = ticks_of p (beside ++ ranks_in p left) e

abbrev pub ticks_in : Program → Contents → Declared → List ℕ
ticks_in p left e = ticks_beside p [] left e

-- the fault of clocks: their ticks are counted behind the rows of all files
abbrev pub fault_of_clocks : Program → List ℕ → Contents → Option SourceFault
fault_of_clocks p beside left = fault_among p.sources (items_held (form_of (job_of p)) left p.sources) (ticks_beside p beside left)

-- THE FIRST FAULT: that of rows, or else that of clocks
abbrev pub first_fault_beside : Program → List ℕ → Contents → Option SourceFault
first_fault_beside p beside left = or_else (fault_of_rows p left) (fault_of_clocks p beside left)

abbrev pub first_fault : Program → Contents → Option SourceFault
first_fault p left = first_fault_beside p [] left

-- GOOD SOURCES: none has a defect, and no clock too many ticks
abbrev pub AreGood : Program → Contents → Type 0
AreGood p left = first_fault p left ≡ None

-- ---- the lists of items
-- the event at a time, of the itag with a number, with the item and the value that its row gives
abbrev pub event_of : ℕ → ℕ → Option (ℕ × ℤ) → EventOf
event_of time itag given =
    let both = unwrap_or given (0, pos 0) in record { time = time; itag = record { 0 = itag }; item = both.0; value = both.1 }

-- the item that an event or a heartbeat gives for the itag at a place of a source whose first itag has this number: an event
-- is an item of its own itag, and a heartbeat is an item of each
abbrev pub item_in : List Kind → Source → ℕ → ℕ → Row → Option Item
item_in kinds s first place (Event time name key fields) =
    if unwrap_or (option_map (λ n. n == place) (place_named kinds s name key)) false
    then Some (EventItem (event_of time (first + place) (given_to kinds name fields)))
    else None
item_in kinds s first place (Beat time) = Some (BeatItem time)
item_in kinds s first place End = None

-- the time of an event or a heartbeat
abbrev pub time_at : Row → ℕ
time_at row = unwrap_or (time_in row) 0

-- a row at another time
abbrev pub with_time : ℕ → Row → Row
with_time time (Event t name key fields) = Event time name key fields
with_time time (Beat t) = Beat time
with_time time End = End

-- THE ROWS OF A SOURCE AT THEIR MOMENTS, after rows of these times, in the file's order: each by its time and by how many rows before it have this
-- time
abbrev pub at_moments : Timing → List ℕ → List Row → List Row
at_moments timing earlier [] = []
at_moments timing earlier (row ∷ rows) =
    with_time (moment_at timing (time_at row) (times (time_at row) earlier)) row ∷ at_moments timing (earlier ++ times_of (row ∷ [])) rows

-- the rows sorted by time
abbrev pub in_time_order : List Row → List Row
in_time_order rows = in_order (is_less time_at) rows

-- the items of an itag among rows at their moments: its events and all heartbeats, sorted by moment, and the end
abbrev pub items_at : List Kind → Source → ℕ → List Row → ℕ → List Item
items_at kinds s first rows place = filter_map (item_in kinds s first place) (in_time_order rows) ++ EndItem ∷ []

-- a list for each itag of a source
abbrev pub lists_of_rows : Timing → List Kind → Source → ℕ → List Row → List (List Item)
lists_of_rows timing kinds s first rows = map (items_at kinds s first (at_moments timing [] rows)) (range_with_len 0 (width s))

-- the lists of a source with these rows, or of a clock with these ticks
abbrev pub lists_of_source : Program → List Row → List ℕ → Declared → List (List Item)
lists_of_source p rows ticks e =
    let timing = timing_of p (length e.0) in let first = sum_by width e.0 in
    if is_clock e.1 then lists_of_ticks timing e.1 first ticks else lists_of_rows timing p.kinds e.1 first rows

-- of all sources, of each with its own
abbrev pub lists_of_sources : Program → (Declared → List Row) → (Declared → List ℕ) → List (List Item)
lists_of_sources p rows ticks = flat_map (λ e. lists_of_source p (rows e) (ticks e) e) (each_with_before p.sources)

-- the lists of good sources, where clocks tick among rows elsewhere too that stand there
abbrev pub lists_beside : Program → List ℕ → Contents → List (List Item)
lists_beside p beside left = lists_of_sources p (λ e. rows_in (form_of (job_of p)) left e.1) (ticks_beside p beside left)

-- THE LISTS OF GOOD SOURCES: for each itag, by its number, its events and all heartbeats of its source at their moments, sorted by these, and
-- the end; for that of a clock its ticks at their moments, and the end
abbrev pub lists_of : Program → Contents → List (List Item)
lists_of p left = lists_beside p [] left
