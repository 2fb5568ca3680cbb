-- What is held of the sources between rounds, and after which lines it is held (`docs/MODEL.md`, "Rounds").
use Rattle.std.specs.Prelude.{◌≡◌, ◌≢◌, ℕ, ◌+◌, ◌*◌, ◌<◌, ◌≤◌, ◌^◌, Bool, true, false, Result, Ok, Option, Some, None, List, [], ◌++◌, length, map, take}
use Rattle.std.specs.Prelude.{slice_get, sum_by}
use Rattle.std.specs.Prelude.{if◌then◌else◌, unwrap_or, ⊤}
use Rattle.std.specs.List.{All}
use Rattle.flu_model.specs.Erasure.{job_of}
use Rattle.flu_lemmas.specs.Elements.{AtEach}
use Rattle.flu_model.specs.declared.events.Item.{Item}
use Rattle.flu_model.specs.declared.events.Item.TheVariants.{Event as EventItem, Beat as BeatItem, End as EndItem}
use Rattle.flu_model.specs.declared.jobs.Kind.{Kind}
use Rattle.flu_model.specs.declared.jobs.Source.{Source}
use Rattle.flu_model.specs.declared.jobs.Program.{Program}
use Rattle.flu_model.specs.declared.moments.Timing.{Timing}
use Rattle.flu_model.specs.Moments.{timing_of}
use Rattle.flu_model.specs.Rules.{is_clock}
use Rattle.flu_model.specs.Itags.{count_of_itags}
use Rattle.flu_outside.specs.Outside.{Contents, WhereTold, Rose}
use Rattle.flu_outside.specs.Taking.{IsReadOut}
use Rattle.flu_rows.specs.declared.row.Row.{Row}
use Rattle.flu_rows.specs.declared.row.Row.TheVariants.{Event, Beat, End}
use Rattle.flu_rows.specs.declared.row.RowForm.{RowForm}
use Rattle.flu_rows.specs.declared.rows.Next.{Next}
use Rattle.flu_rows.specs.Row.{form_of}
use Rattle.flu_rows.specs.Lines.{IsUndecided}
use Rattle.flu_rows.specs.Reading.{Place, ahead, front_of}
use Rattle.flu_streams.specs.declared.border.Border.{Border}
use Rattle.flu_streams.specs.declared.border.Border.TheVariants.{At, Closed}
use Rattle.flu_streams.specs.declared.faults.GatherFault.{GatherFault}
use Rattle.flu_streams.specs.declared.faults.GatherFault.TheVariants.{Source as SourceFaulty, ReadFault, NoMemory}
use Rattle.flu_streams.specs.declared.held.Stage.{Stage}
use Rattle.flu_streams.specs.declared.held.Stage.TheVariants.{Filling, Filled, Over}
use Rattle.flu_streams.specs.Files.{files_of, AreReadOut}
use Rattle.flu_streams.specs.Good.{event_of, at_moments, in_time_order}
use Rattle.flu_streams.specs.Rounds.{Turn, Reads, IsPassed, IsRound, IsRoundFault, LinesIn, defect_in, is_above, is_enough, rows_between, settled_time}
use Rattle.flu_streams.specs.Tags.{place_named, given_to, width}
use Rattle.flu_streams.specs.Tests.{rows_of, times_of, least, greatest, has_ended, margin}

-- ---- what is held
-- of a source: the items with a time above the last border, in order of time; where its rows are read; the least and the greatest time that were
-- read; whether `end` was; whether all of its file was, as of a clock from the start; and in a resumed run, the border that the reading has yet to reach
pub record HeldSource : Type 0 where
  pub items : List Item
  pub place : Place
  pub first : Option ℕ
  pub last : Option ℕ
  pub ended : Bool
  pub closed : Bool
  pub goal : Option ℕ

-- of all sources of a job: how many rows a round needs, the border of the last cut, and what may be called next
pub record Holding : Type 0 where
  pub program : Program
  pub rows : ℕ
  pub border : Option ℕ
  pub stage : Stage
  pub sources : List HeldSource

-- nothing was read of a source, whose rows have this form and are run from this border on, if there is one
abbrev pub unread_source : RowForm → Option ℕ → Source → HeldSource
unread_source form border s = record { items = []; place = front_of form s.file; first = None; last = None; ended = false; closed = is_clock s; goal = border }

-- nothing was read of any
abbrev pub unread : Program → ℕ → Option ℕ → Holding
unread p rows border =
    record { program = p; rows = rows; border = border; stage = Filling; sources = map (unread_source (form_of (job_of p)) border) p.sources }

-- a run from the first row on
abbrev pub fresh : Program → ℕ → Holding
fresh p rows = unread p rows None

-- ---- after which lines
-- the number of the first itag of the source with a number
abbrev pub first_itag : Program → ℕ → ℕ
first_itag p number = sum_by width (take number p.sources)

-- the item that a row is; for an event of a tag that the source does not list, its itag is none of the source's
abbrev pub item_of : List Kind → Source → ℕ → Row → Item
item_of kinds s first (Event time name key fields) =
    EventItem (event_of time (first + unwrap_or (place_named kinds s name key) (width s)) (given_to kinds name fields))
item_of kinds s first (Beat time) = BeatItem time
item_of kinds s first End = EndItem

-- a border is not above another
abbrev pub IsUpTo : Option ℕ → Option ℕ → Type 0
IsUpTo low border = (l : ℕ) → low ≡ Some l → (b : ℕ) × (border ≡ Some b) × (l ≤ b)

-- this is held of a source, whose first itag has this number, after these lines and with this border: the items above a lower one, at their moments,
-- which is the border itself except in a resumed run that has not reached it. The lower one is settled if more is to be read: so what
-- is still to come is above it.
pub record IsHeldBehind (timing : Timing) (kinds : List Kind) (first : ℕ) (s : Source) (border : Option ℕ) (lines : List Next) (h : HeldSource) : Type 0 where
  pub file : h.place.file ≡ s.file
  pub sound : defect_in timing kinds s lines ≡ None
  pub low : Option ℕ
  pub items : h.items ≡ map (item_of kinds s first) (in_time_order (at_moments timing [] (rows_between low Closed (rows_of lines))))
  pub earliest : h.first ≡ least (times_of (rows_of lines))
  pub last : h.last ≡ greatest (times_of (rows_of lines))
  pub ended : h.ended ≡ has_ended (rows_of lines)
  pub settled : h.closed ≡ false → (t : ℕ) → low ≡ Some t → (u : ℕ) × (settled_time timing s lines ≡ Some u) × (t ≤ u)
  pub up_to : IsUpTo low border
  pub caught : h.goal ≡ None → low ≡ border
  pub goal : (t : ℕ) → h.goal ≡ Some t → border ≡ Some t

-- this is held of all sources after these lines of each
pub record AreHeldBehind (h : Holding) (lines : ℕ → List Next) : Type 0 where
  pub count : length h.sources ≡ length h.program.sources
  pub clocks : AtEach (λ i s. (source : HeldSource) → slice_get h.sources i ≡ Some source → is_clock s ≡ true → source.closed ≡ true) h.program.sources
  pub each : (i : ℕ) (s : Source) (source : HeldSource) → slice_get h.program.sources i ≡ Some s → slice_get h.sources i ≡ Some source
      → IsHeldBehind (timing_of h.program i) h.program.kinds (first_itag h.program i) s h.border (lines i) source

-- what is still to be read of a source
abbrev pub still : HeldSource → Contents → List Next
still source left = if source.closed then [] else ahead source.place left

-- these are all the lines: those that were read, and those that are still to be read
abbrev pub AreInAll : Holding → (ℕ → List Next) → Contents → (ℕ → List Next) → Type 0
AreInAll h lines left whole = AtEach (λ i source. whole i ≡ lines i ++ still source left) h.sources

-- nothing is left of a file that was read to its end, if what is left is known
abbrev pub ClosedAreReadOut : Holding → Option Contents → Type 0
ClosedAreReadOut h left =
    AtEach (λ i s. (source : HeldSource) → slice_get h.sources i ≡ Some source → is_clock s ≡ false → source.closed ≡ true → IsReadOut source.place.file left)
    h.program.sources

-- all files were read to their ends
abbrev pub AreClosed : Holding → Type 0
AreClosed h = AtEach (λ i source. source.closed ≡ true) h.sources

-- ---- how much is held
-- of each source at most as many rows are held as a round needs of it, and as many as it may have at each time within its margin
abbrev pub HoldsFew : Holding → Type 0
HoldsFew h =
    AtEach (λ i s. (source : HeldSource) → slice_get h.sources i ≡ Some source
    → length source.items ≤ h.rows + margin (timing_of h.program i) s.slack * h.program.ties) h.program.sources

-- of each source at most this many
abbrev pub HoldsAtMost : ℕ → Holding → Type 0
HoldsAtMost most h = AtEach (λ i source. length source.items ≤ most) h.sources

-- the lists of a round have at most this many events and heartbeats each, and the end
abbrev pub HaveAtMost : ℕ → List (List Item) → Type 0
HaveAtMost most lists = All (λ items. length items ≤ most + 1) lists

-- how many rows a round needs of a source at most, and as many as the source may have at each time within the margin of the greatest slack
abbrev pub most_of : Timing → ℕ
most_of timing = 4096 + margin timing 60000 * timing.ties

abbrev pub most_held : Program → ℕ
most_held p = most_of (timing_of p 0)

-- LAW OF WHAT IS HELD: rounds of at most 4,096 rows hold at most so many rows of a source, before version 3 at most 64,096, and the lists of a round
-- have at most 256 times as many events and heartbeats, before version 3 at most 16,408,576, and the ends of 256 lists
pub record LawOfBounds : Type 0 where
  pub rows : (h : Holding) → h.rows ≤ 4096 → length h.sources ≡ length h.program.sources → HoldsFew h → HoldsAtMost (most_held h.program) h
  pub items : (p : Program) (lists : List (List Item)) → length lists ≡ count_of_itags p → HaveAtMost (most_held p) lists
      → sum_by (λ (items : List Item). length items) lists ≤ 256 * most_held p + 256
  pub older : (p : Program) → p.version ≢ 3 → p.ties ≡ 1 → (most_held p ≡ 64096) × (256 * most_held p ≡ 16408576)

-- ---- a refill
-- after a refill a cut at its answer may be called
abbrev pub IsFilled : Result Border GatherFault → Stage → Type 0
IsFilled result stage = (b : Border) → result ≡ Ok b → stage ≡ Filled b

-- the job, the number of rows and the border are as they were
pub record KeepsJob (old new : Holding) : Type 0 where
  pub program : new.program ≡ old.program
  pub rows : new.rows ≡ old.rows
  pub border : new.border ≡ old.border

-- A REFILL reads what the round reads of each source, after the lines that were read before it, and no others
pub record Fills (old new : Holding) (left left' : Option Contents) (end : Border) (before : ℕ → List Next) : Type 0 where
  pub now : ℕ → List Next
  pub behind : AreHeldBehind new now
  pub round : WhereTold left left' (λ was is. (whole : ℕ → List Next) → AreInAll old before was whole
      → IsRound old.program old.rows old.border whole before now end × AreInAll new now is whole)

-- a new border is above the one before it, and below 2^63
abbrev pub IsNewBorder : Option ℕ → Border → Type 0
IsNewBorder above (At t) = (is_above above t ≡ true) × (t < 2 ^ 63)
IsNewBorder above Closed = ⊤

-- a source fault is the defect of the round
abbrev pub IsRefillFault : Holding → Option Contents → Option Contents → GatherFault → Type 0
IsRefillFault old left left' (SourceFaulty f) = (f.source < length old.program.sources)
    × ((before : ℕ → List Next) → AreHeldBehind old before → WhereTold left left' (λ was is. (whole : ℕ → List Next) → AreInAll old before was whole
    → IsRoundFault old.program old.rows old.border whole before f))
IsRefillFault old left left' ReadFault = ⊤
IsRefillFault old left left' NoMemory = ⊤

-- A READ FAULT HIDES NO DEFECT: the sources before the one whose file failed have what the round reads of them, and no defect of theirs
-- is met; the reading of that one stops after rows without a defect, which are not enough, and whatever else was taken of it decides nothing
pub record HidesNoRoundFault (old : Holding) (left left' : Option Contents) (faults faults' : List ℕ → ℕ) (before : ℕ → List Next) : Type 0 where
  pub at : ℕ
  pub source : Source
  pub is : slice_get old.program.sources at ≡ Some source
  pub has_file : is_clock source ≡ false
  pub rose : Rose (faults source.file) (faults' source.file)
  pub now : ℕ → List Next
  pub more : List Next
  pub further : now at ≡ before at ++ more
  pub sound : defect_in (timing_of old.program at) old.program.kinds source (now at) ≡ None
  pub few : (k : ℕ) → k ≤ length more → is_enough (timing_of old.program at) old.rows old.border source (before at ++ take k more) ≡ false
  pub place : Place
  pub form : place.form ≡ form_of (job_of old.program)
  pub file : place.file ≡ source.file
  pub undecided : IsUndecided place.taken
  pub told : WhereTold left left' (λ was is. (whole : ℕ → List Next) → AreInAll old before was whole
      → AtEach (λ i s. i < at
      → (turn : Turn) × Reads (timing_of old.program i) old.program.kinds s old.rows old.border (whole i) (before i) (now i) turn × IsPassed turn)
      old.program.sources
      × (whole at ≡ now at ++ ahead place is))

-- ---- a cut
-- the border after a cut at a border: the last round sets none
abbrev pub border_after : Border → Option ℕ → Option ℕ
border_after (At t) border = Some t
border_after Closed border = border

-- after the last round nothing may be called
abbrev pub stage_after : Border → Stage
stage_after (At t) = Filling
stage_after Closed = Over

-- A CUT takes out the rows of the round, and leaves the others where they are; nothing is read
pub record Cuts (old new : Holding) (b : Border) : Type 0 where
  pub program : new.program ≡ old.program
  pub rows : new.rows ≡ old.rows
  pub border : new.border ≡ border_after b old.border
  pub stage : new.stage ≡ stage_after b
  pub behind : (lines : ℕ → List Next) → AreHeldBehind old lines → AreHeldBehind new lines
  pub still' : (lines whole : ℕ → List Next) (left : Contents) → AreInAll old lines left whole → AreInAll new lines left whole
  pub ended : (left : Option Contents) → ClosedAreReadOut old left → ClosedAreReadOut new left
  pub closed : AreClosed old → AreClosed new

-- ---- the start
-- LAW OF THE START: before the first round nothing has been read, so all lines are still to be read, and no file was read to its end
pub record IsStart (p : Program) (rows : ℕ) (border : Option ℕ) : Type 0 where
  pub behind : AreHeldBehind (unread p rows border) (λ i. [])
  pub all : (left : Contents) (whole : ℕ → List Next) → LinesIn p left whole → AreInAll (unread p rows border) (λ i. []) left whole
  pub ended : (left : Option Contents) → ClosedAreReadOut (unread p rows border) left

abbrev pub LawOfStart : Type 0
LawOfStart = (p : Program) (rows : ℕ) (border : Option ℕ) → IsStart p rows border

-- after the last round all files were read to their ends
abbrev pub LawOfEnds : Type 0
LawOfEnds = (h : Holding) (lines : ℕ → List Next) (left : Option Contents)
    → AreHeldBehind h lines → AreClosed h → ClosedAreReadOut h left → AreReadOut (files_of h.program.sources) left
