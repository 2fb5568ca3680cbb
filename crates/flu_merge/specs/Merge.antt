-- The stable merge of the files of a job, and the law that the merged list of good sources is it. A clock has no file: in place of one it has its ticks.
use Rattle.std.specs.Prelude.{ℕ, pos, List, map, sum_by, if◌then◌else◌, IsPermutation, IsSortedByKey}
use Rattle.std.specs.List.{flat_map}
use Rattle.std.specs.List.Sorted.{IsStableByKey}
use Rattle.std.specs.Ordering.{nat_cmp}
use Rattle.flu_model.specs.declared.events.Event.{Event}
use Rattle.flu_model.specs.declared.jobs.Kind.{Kind}
use Rattle.flu_model.specs.declared.jobs.Program.{Program}
use Rattle.flu_model.specs.declared.jobs.Source.{Source}
use Rattle.flu_model.specs.Erasure.{job_of}
use Rattle.flu_model.specs.Merging.{events_of, merged}
use Rattle.flu_model.specs.Moments.{at_its_time}
use Rattle.flu_model.specs.Rules.{is_clock}
use Rattle.flu_outside.specs.Outside.{Contents}
use Rattle.flu_rows.specs.declared.row.Row.{Row}
use Rattle.flu_rows.specs.Row.{form_of}
use Rattle.flu_streams.specs.Before.{each_with_before}
use Rattle.flu_streams.specs.Clocks.{Declared}
use Rattle.flu_streams.specs.Good.{rows_in, ticks_in, AreGood, lists_of}
use Rattle.flu_streams.specs.Holding.{item_of}
use Rattle.flu_streams.specs.Tags.{width}

-- the events of a source's rows as they are read, in the file's order
abbrev pub events_of_rows : List Kind → Source → ℕ → List Row → List Event
events_of_rows kinds s first rows = events_of (map (item_of kinds s first) rows)

-- the events of a clock's ticks, each at its time, in their order
abbrev pub events_of_ticks : ℕ → List ℕ → List Event
events_of_ticks itag ticks = map (λ time. record { time = time; itag = record { 0 = itag }; item = 0; value = pos 0 }) ticks

-- those of a source, whose first itag has the number of all that the sources before it have
abbrev pub events_of_source : Program → Contents → Declared → List Event
events_of_source p left e =
    if is_clock e.1 then events_of_ticks (sum_by width e.0) (ticks_in p left e)
    else events_of_rows p.kinds e.1 (sum_by width e.0) (rows_in (form_of (job_of p)) left e.1)

-- THE EVENTS OF THE FILES as they are read, file after file as declared, and in the place of a clock those of its ticks
abbrev pub events_of_files : Program → Contents → List Event
events_of_files p left = flat_map (events_of_source p left) (each_with_before p.sources)

-- events that stand at moments, each at its time
abbrev pub at_their_times : Program → List Event → List Event
at_their_times p events = map (at_its_time p) events

-- THE STABLE MERGE: all events, by time; and those at one time keep the order of the files, and in a file their own
pub record IsStableMerge (events merged' : List Event) : Type 0 where
  pub all : IsPermutation events merged'
  pub by_time : IsSortedByKey (λ (x : Event). x.time) nat_cmp merged'
  pub stable : IsStableByKey (λ (x : Event). x.time) nat_cmp events merged'

-- LAW OF THE MERGE: the merged list of good sources, each event at its time, is the stable merge, by time, of the events of their files as they are read,
-- and of the ticks of clocks among them
abbrev pub GoodFilesAreMerged : Type 0
GoodFilesAreMerged =
    (p : Program) (left : Contents) → AreGood p left → IsStableMerge (events_of_files p left) (at_their_times p (merged (lists_of p left)))
