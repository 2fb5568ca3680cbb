-- How sources are read whole, one after another.
use Rattle.std.specs.Prelude.{◌≡◌, ℕ, ◌+◌, ◌<◌, true, Option, Some, None, List, [], ◌++◌, length, sum_by, vec_len, ⊤}
use Rattle.std.specs.List.{flat_map}
use Rattle.flu_model.specs.declared.jobs.Kind.{Kind}
use Rattle.flu_model.specs.declared.jobs.Source.{Source}
use Rattle.flu_model.specs.declared.events.Item.{Item}
use Rattle.flu_model.specs.declared.moments.Timing.{Timing}
use Rattle.flu_model.specs.Streaming.{are_streams}
use Rattle.flu_outside.specs.Outside.{Contents, WhereTold}
use Rattle.flu_rows.specs.declared.row.RowForm.{RowForm}
use Rattle.flu_rows.specs.declared.rows.Next.{Next}
use Rattle.flu_rows.specs.Lines.{IsUndecided}
use Rattle.flu_rows.specs.Reading.{Place, ahead}
use Rattle.flu_streams.specs.declared.faults.GatherFault.{GatherFault}
use Rattle.flu_streams.specs.declared.faults.GatherFault.TheVariants.{Source as SourceFaulty, ReadFault, NoMemory}
use Rattle.flu_streams.specs.declared.gathered.Gathered.{Gathered}
use Rattle.flu_streams.specs.Before.{each_with_before, first_some}
use Rattle.flu_streams.specs.Tags.{width}
use Rattle.flu_streams.specs.Tests.{rows_of, times_of, least, greatest, items_of, first_of}
use Rattle.std.specs.List.{list_any}
use Rattle.flu_model.specs.declared.jobs.Program.{Program}
use Rattle.flu_model.specs.declared.streams.Streams.{Streams}
use Rattle.flu_model.specs.Listed.{listed}
use Rattle.flu_model.specs.Moments.{timing_of}
use Rattle.flu_model.specs.Rules.{is_clock}
use Rattle.flu_rows.specs.declared.row.Row.{Row}
use Rattle.flu_streams.specs.declared.clocks.Span.{Span}
use Rattle.flu_streams.specs.Clocks.{Declared, ranks_among, ticks_of, fault_among}
use Rattle.flu_streams.specs.LoopClocks.{HasSpan, span_with}
use Rattle.flu_streams.specs.Good.{fault_of_rows, lists_of_sources}
use Rattle.flu_streams.specs.Good.{lines_in, rows_in, items_held, fault_of_source, lists_of_rows}
use Rattle.flu_streams.specs.Lists.{lists_in}
use Rattle.flu_streams.specs.Faults.{WasRead}
use Rattle.flu_streams.specs.Files.{files_of, LeavesOthers}

-- where the job has clocks, among so many sources, the span of the rows that were read with those of one more source, whose least and greatest times
-- are these
abbrev pub span_among : Option ℕ → ℕ → Option Span → Option ℕ → Option ℕ → Option Span
span_among None number span first last = span
span_among (Some sources) number span first last = span_with sources number span first last

abbrev pub span_behind : Option ℕ → ℕ → Option Span → List ℕ → Option Span
span_behind sources number span times = span_among sources number span (least times) (greatest times)

-- all times are before this one
abbrev pub IsBefore : ℕ → List ℕ → Type 0
IsBefore end times = (t : ℕ) → greatest times ≡ Some t → t < end

-- one more source was read to its end, and has no defect
pub record AddsSource (sources : Option ℕ) (timing : Timing) (form : RowForm) (kinds : List Kind) (s : Source) (left left' : Option Contents)
    (old new : Gathered) : Type 0 where
  pub read : List Next
  pub passes : first_of timing kinds s old.held read ≡ None
  pub told : WhereTold left left' (λ was now. WasRead form s read [] was)
  pub lists : lists_in new.lists ≡ lists_in old.lists ++ lists_of_rows timing kinds s (vec_len old.lists) (rows_of read)
  pub streams : are_streams (vec_len old.lists) (lists_of_rows timing kinds s (vec_len old.lists) (rows_of read)) ≡ true
  pub len : vec_len new.lists ≡ vec_len old.lists + width s
  pub held : new.held ≡ old.held + items_of (width s) (rows_of read)
  pub number : new.number ≡ old.number + 1
  pub span : new.span ≡ span_behind sources old.number old.span (times_of (rows_of read))
  pub early : IsBefore timing.end (times_of (rows_of read))

-- a fault of a source is this one's, by its first defect
abbrev pub IsFaultOf : Timing → RowForm → List Kind → Source → ℕ → ℕ → Option Contents → Option Contents → GatherFault → Type 0
IsFaultOf timing form kinds s number held left left' (SourceFaulty f) =
    (f.source ≡ number) × WhereTold left left' (λ was now. first_of timing kinds s held (lines_in form was s) ≡ Some (f.row, f.why))
IsFaultOf timing form kinds s number held left left' ReadFault = ⊤
IsFaultOf timing form kinds s number held left left' NoMemory = ⊤

-- the reading of a source stops after rows without a defect, and whatever else was taken of it decides nothing
pub record HidesNoDefect (timing : Timing) (form : RowForm) (kinds : List Kind) (s : Source) (before : ℕ) (old new : Option Contents) : Type 0 where
  pub read : List Next
  pub place : Place
  pub form_is : place.form ≡ form
  pub file : place.file ≡ s.file
  pub passes : first_of timing kinds s before read ≡ None
  pub undecided : IsUndecided place.taken
  pub told : WhereTold old new (λ was now. WasRead form s read (ahead place now) was)

-- the lists of the rows of some sources that come first; a clock has no rows
abbrev pub lists_of_files : (ℕ → Timing) → RowForm → List Kind → Contents → List Source → List (List Item)
lists_of_files timing form kinds left sources =
    flat_map (λ e. lists_of_rows (timing (length e.0)) kinds e.1 (sum_by width e.0) (rows_in form left e.1)) (each_with_before sources)

-- these are the rows of all sources by their lists, a clock has none, and their span with that of rows elsewhere is known
pub record HasRows (p : Program) (beside : List ℕ) (gathered : Gathered) (rows : Declared → List Row) : Type 0 where
  pub lists : lists_in gathered.lists
      ≡ flat_map (λ e. lists_of_rows (timing_of p (length e.0)) p.kinds e.1 (sum_by width e.0) (rows e)) (each_with_before p.sources)
  pub clocks : (e : Declared) → is_clock e.1 ≡ true → rows e ≡ []
  pub span : list_any is_clock p.sources ≡ true → HasSpan gathered.span (beside ++ ranks_among p rows)

-- the lists of all sources with the ticks of the clocks
abbrev pub HasTicks : Program → List ℕ → Gathered → Streams → Type 0
HasTicks p beside gathered streams = (rows : Declared → List Row) → HasRows p beside gathered rows
    → (listed streams ≡ lists_of_sources p rows (ticks_of p (beside ++ ranks_among p rows))) ×
    (fault_among p.sources gathered.held (ticks_of p (beside ++ ranks_among p rows)) ≡ None)

-- a fault is that of a clock
abbrev pub IsTickFault : Program → List ℕ → Gathered → GatherFault → Type 0
IsTickFault p beside gathered (SourceFaulty f) = (f.source < length p.sources)
    × ((rows : Declared → List Row) → HasRows p beside gathered rows
    → fault_among p.sources gathered.held (ticks_of p (beside ++ ranks_among p rows)) ≡ Some f)
IsTickFault p beside gathered ReadFault = ⊥
IsTickFault p beside gathered NoMemory = ⊤

-- a fault is the first one of rows
abbrev pub IsRowFault : Program → Option Contents → Option Contents → GatherFault → Type 0
IsRowFault p left left' (SourceFaulty f) = (f.source < length p.sources) × WhereTold left left' (λ was now. fault_of_rows p was ≡ Some f)
IsRowFault p left left' ReadFault = ⊤
IsRowFault p left left' NoMemory = ⊤

-- what was read of these sources, and what it did to the files
pub record IsGathered (timing : ℕ
    → Timing) (form : RowForm) (kinds : List Kind) (sources : List Source) (gathered : Gathered) (old new : Contents) : Type 0 where
  pub good : first_some (λ e. fault_of_source timing form kinds old e.0 e.1) (each_with_before sources) ≡ None
  pub lists : lists_in gathered.lists ≡ lists_of_files timing form kinds old sources
  pub held : gathered.held ≡ items_held form old sources
  pub others : LeavesOthers (files_of sources) old new
