-- What is read of a job where the files of some of its sources are closed. A clock has no file: it ticks among the rows that are read, and among
-- rows that are read elsewhere, where it is said where these stand.
use Rattle.std.specs.Prelude.{◌≡◌, ℕ, ◌<◌, Bool, true, false, Option, Some, None, option_map, List, [], ◌∷◌, ◌++◌, length, take, slice_get, slice_index_or}
use Rattle.std.specs.Prelude.{sum_by, if◌then◌else◌}
use Rattle.std.specs.List.{filter_map, flat_map, list_any}
use Rattle.flu_model.specs.Erasure.{job_of}
use Rattle.flu_model.specs.declared.events.Item.TheVariants.{End as EndItem}
use Rattle.flu_model.specs.declared.jobs.Kind.{Kind}
use Rattle.flu_model.specs.declared.jobs.Source.{Source}
use Rattle.flu_model.specs.declared.jobs.Program.{Program}
use Rattle.flu_model.specs.declared.moments.Timing.{Timing}
use Rattle.flu_model.specs.Moments.{timing_of}
use Rattle.flu_model.specs.Rules.{is_clock, file_of_source}
use Rattle.flu_model.specs.Itags.{count_of_itags, source_of_itag}
use Rattle.flu_model.specs.Streaming.{are_streams}
use Rattle.flu_outside.specs.Outside.{Contents}
use Rattle.flu_rows.specs.declared.row.RowForm.{RowForm}
use Rattle.flu_rows.specs.Row.{form_of}
use Rattle.flu_streams.specs.declared.faults.SourceFault.{SourceFault}
use Rattle.flu_streams.specs.Before.{each_with_before, first_some, or_else}
use Rattle.flu_streams.specs.Clocks.{Declared, has_ticks, ranks_of, ticks_of, items_of_ticks, fault_among}
use Rattle.flu_streams.specs.Good.{rows_in, lines_in, ranks_in, ticks_beside, first_fault_beside, AreGood, lists_beside, lists_of}
use Rattle.flu_streams.specs.Tags.{width}
use Rattle.flu_streams.specs.Tests.{items_of, first_of}
use Rattle.flu_selected.specs.Selecting.{with_closed, is_among, closed_at}

-- the file of a source that is not read, if it has one; a source's number is how many come before it
abbrev pub closed_file : (ℕ → Bool) → Declared → Option (List ℕ)
closed_file is_read e = if is_read (length e.0) then None else file_of_source e.1

-- THE FILES OF THE SOURCES THAT ARE NOT READ
abbrev pub closed_files : Program → (ℕ → Bool) → List (List ℕ)
closed_files p is_read = filter_map (closed_file is_read) (each_with_before p.sources)

-- what the names have left where these files are closed
abbrev pub selected : Program → (ℕ → Bool) → Contents → Contents
selected p is_read left = closed_at (closed_files p is_read) left

-- a name that is not closed has what it has, whatever is left under the closed ones
abbrev pub OpenNamesAgree : Type 0
OpenNamesAgree = (lines left : Contents) (name : List ℕ) → lines name ≡ None → with_closed lines left name ≡ left name

-- and before anything is taken, where the closed ones are known: a name that is not among them
abbrev pub OpenNamesAgreeAtStart : Type 0
OpenNamesAgreeAtStart = (names : List (List ℕ)) (left : Contents) (name : List ℕ) → is_among names name ≡ false → closed_at names left name ≡ left name

-- ---- the ranks of the rows
-- where the rows of a source stand among those of all, if it is read; a clock has no rows
abbrev pub read_ranks_of : Program → (ℕ → Bool) → Contents → Declared → List ℕ
read_ranks_of p is_read left e = if is_read (length e.0) then ranks_of p (length e.0) (rows_in (form_of (job_of p)) left e.1) else []

-- where the rows of the sources that are read stand
abbrev pub read_ranks : Program → (ℕ → Bool) → Contents → List ℕ
read_ranks p is_read left = flat_map (read_ranks_of p is_read left) (each_with_before p.sources)

-- LAW OF RANKS: where the files of some sources are closed, the rows are those of the read sources
abbrev pub LawOfRanks : Type 0
LawOfRanks = (p : Program) (is_read : ℕ → Bool) (left : Contents) → ranks_in p (selected p is_read left) ≡ read_ranks p is_read left

-- ---- the lists
-- LAW OF LISTS: the items of the itags of a read source with a file are those that its file gives, and an itag of another source with a file has
-- its end alone, among whatever rows elsewhere clocks tick
abbrev pub LawOfLists : Type 0
LawOfLists = (p : Program) (is_read : ℕ → Bool) (beside : List ℕ) (left : Contents) (itag : ℕ) → itag < count_of_itags p → has_ticks p itag ≡ false
    → slice_index_or (lists_beside p beside (selected p is_read left)) itag []
    ≡ (if is_read (source_of_itag p (record { 0 = itag })) then slice_index_or (lists_of p left) itag [] else EndItem ∷ [])

-- LAW OF TICKS: the items of the itag of a clock are its ticks among the rows of the files and those elsewhere
abbrev pub LawOfTicks : Type 0
LawOfTicks = (p : Program) (beside : List ℕ) (left : Contents) (itag : ℕ) (s : Source) → itag < count_of_itags p
    → slice_get p.sources (source_of_itag p (record { 0 = itag })) ≡ Some s → is_clock s ≡ true
    → slice_index_or (lists_beside p beside left) itag []
    ≡ items_of_ticks (timing_of p (source_of_itag p (record { 0 = itag }))) itag
    (ticks_beside p beside left (take (source_of_itag p (record { 0 = itag })) p.sources, s))

-- THERE IS A LIST FOR EACH ITAG, whatever the files have
abbrev pub LawOfLength : Type 0
LawOfLength = (p : Program) (beside : List ℕ) (left : Contents) → length (lists_beside p beside left) ≡ count_of_itags p

-- where all lists are streams, they are if only some sources are read, among whatever rows elsewhere clocks tick
abbrev pub StreamsStay : Type 0
StreamsStay = (p : Program) (is_read : ℕ → Bool) (beside : List ℕ) (left : Contents) → are_streams 0 (lists_of p left) ≡ true
    → are_streams 0 (lists_beside p beside (selected p is_read left)) ≡ true

-- ---- defects
-- how many items the rows of a source have, if it is read
abbrev pub read_items_in : RowForm → (ℕ → Bool) → Contents → Declared → ℕ
read_items_in form is_read left e = if is_read (length e.0) then items_of (width e.1) (rows_in form left e.1) else 0

-- the items of the read ones among the first sources
abbrev pub read_items : RowForm → (ℕ → Bool) → Contents → List Source → ℕ
read_items form is_read left sources = sum_by (read_items_in form is_read left) (each_with_before sources)

-- the fault of a read source that comes after others: its first defect, given that the items of the read ones among those are held.
-- A source that is not read has none.
abbrev pub read_fault : (ℕ → Timing) → RowForm → List Kind → (ℕ → Bool) → Contents → List Source → Source → Option SourceFault
read_fault timing form kinds is_read left earlier s =
    if is_read (length earlier)
    then option_map (λ d. record { source = length earlier; row = d.0; why = d.1 })
    (first_of (timing (length earlier)) kinds s (read_items form is_read left earlier) (lines_in form left s))
    else None

-- the fault of the first of the read sources, as declared, whose rows have a defect
abbrev pub fault_of_read_rows : Program → (ℕ → Bool) → Contents → Option SourceFault
fault_of_read_rows p is_read left =
    first_some (λ e. read_fault (timing_of p) (form_of (job_of p)) p.kinds is_read left e.0 e.1) (each_with_before p.sources)

-- and that of clocks, whose ticks among the rows that are read and those elsewhere are counted behind the read rows
abbrev pub fault_of_read_clocks : Program → List ℕ → (ℕ → Bool) → Contents → Option SourceFault
fault_of_read_clocks p beside is_read left =
    fault_among p.sources (read_items (form_of (job_of p)) is_read left p.sources) (ticks_of p (beside ++ read_ranks p is_read left))

-- THE FIRST FAULT OF THE READ SOURCES: the fault of the first one, as declared, that has a defect, or else that of clocks
abbrev pub first_read_fault : Program → List ℕ → (ℕ → Bool) → Contents → Option SourceFault
first_read_fault p beside is_read left = or_else (fault_of_read_rows p is_read left) (fault_of_read_clocks p beside is_read left)

-- LAW OF DEFECTS: the first fault of all sources is that of the read ones
abbrev pub LawOfDefects : Type 0
LawOfDefects =
    (p : Program) (beside : List ℕ) (is_read : ℕ → Bool) (left : Contents)
    → first_fault_beside p beside (selected p is_read left) ≡ first_read_fault p beside is_read left

-- where no source of a job without clocks has a defect, none has one if only some are read
abbrev pub GoodStayGood : Type 0
GoodStayGood = (p : Program) (is_read : ℕ → Bool) (left : Contents) → list_any is_clock p.sources ≡ false → AreGood p left → AreGood p (selected p is_read left)
