-- Rounds: what is read of each source before some of its rows are run, and the time up to which rows are run (`docs/MODEL.md`).
use Rattle.std.specs.Prelude.{◌≡◌, ℕ, ◌-◌, ◌<◌, ◌≤◌, Bool, true, false, ◌&&◌, nat_lt, nat_le, Option, Some, None, option_map, unwrap_or, List, [], ◌∷◌, ◌++◌}
use Rattle.std.specs.Prelude.{length, take, slice_get, if◌then◌else◌, ⊤}
use Rattle.std.specs.List.{filter}
use Rattle.std.specs.Option.{option_map_or}
use Rattle.flu_model.specs.Erasure.{job_of}
use Rattle.flu_lemmas.specs.Elements.{AtEach}
use Rattle.flu_model.specs.declared.events.Item.{Item}
use Rattle.flu_model.specs.declared.events.Out.{Out}
use Rattle.flu_model.specs.declared.jobs.Kind.{Kind}
use Rattle.flu_model.specs.declared.jobs.Source.{Source}
use Rattle.flu_model.specs.declared.jobs.Program.{Program}
use Rattle.flu_model.specs.declared.moments.Timing.{Timing}
use Rattle.flu_model.specs.Moments.{timing_of}
use Rattle.flu_model.specs.Contents.{Contents}
use Rattle.flu_model.specs.Folding.{final_state, final_outputs}
use Rattle.flu_model.specs.Merging.{merged}
use Rattle.flu_model.specs.Reports.{report}
use Rattle.flu_outside.specs.Outside.{Contents as Files}
use Rattle.flu_rows.specs.declared.row.Row.{Row}
use Rattle.flu_rows.specs.declared.rows.Next.{Next}
use Rattle.flu_rows.specs.declared.rows.Next.TheVariants.{Row as RowNext, Bad, TooManyLines, Done}
use Rattle.flu_rows.specs.Row.{form_of}
use Rattle.flu_streams.specs.declared.border.Border.{Border}
use Rattle.flu_streams.specs.declared.border.Border.TheVariants.{At, Closed}
use Rattle.flu_streams.specs.declared.faults.SourceFault.{SourceFault}
use Rattle.flu_streams.specs.declared.faults.Why.{Why}
use Rattle.flu_streams.specs.declared.faults.Why.TheVariants.{AfterEnd}
use Rattle.flu_streams.specs.Before.{each_with_before, first_some}
use Rattle.flu_streams.specs.Borders.{beyond}
use Rattle.flu_streams.specs.Clocks.{Declared, ranks_among, ticks_of}
use Rattle.flu_streams.specs.Good.{lines_in, lists_of_sources, lists_of}
use Rattle.flu_streams.specs.Tests.{rows_of, time_in, times_of, greatest, has_ended, where_true, margin, test_range, test_tag, test_fields, test_item}
use Rattle.flu_streams.specs.Tests.{test_time, defect_of}

-- ---- defects
-- the tests of a row except the one on how many items are held: a round holds few
abbrev pub row_tests : Timing → List Kind → Source → Bool → List ℕ → Row → List (Option Why)
row_tests timing kinds s ended earlier row =
    where_true ended AfterEnd ∷ test_range timing row ∷ test_tag kinds s row ∷ test_fields kinds row ∷ test_item row
    ∷ test_time timing s.slack earlier row ∷ []

-- which rule a row breaks, by whether the source has ended and by its times so far
abbrev pub row_fault : Timing → List Kind → Source → Bool → List ℕ → Row → Option Why
row_fault timing kinds s ended earlier row = first_some (λ test. test) (row_tests timing kinds s ended earlier row)

-- the defect of a line, or of the file's end, after these lines
abbrev pub line_defect : Timing → List Kind → Source → List Next → Next → Option (ℕ × Why)
line_defect timing kinds s read (RowNext line row) = option_map (λ why. (line, why))
    (row_fault timing kinds s (has_ended (rows_of read)) (times_of (rows_of read)) row)
line_defect timing kinds s read (Bad line) = defect_of timing kinds s 0 read (Bad line)
line_defect timing kinds s read TooManyLines = defect_of timing kinds s 0 read TooManyLines
line_defect timing kinds s read (Done lines) = defect_of timing kinds s 0 read (Done lines)

-- the first defect of some lines
abbrev pub defect_in : Timing → List Kind → Source → List Next → Option (ℕ × Why)
defect_in timing kinds s lines = first_some (λ e. line_defect timing kinds s e.0 e.1) (each_with_before lines)

-- ---- times
-- THE SETTLED TIME: the greatest time less the margin; none if that is below 0 or there is no time. No row may come at it any more, nor before it.
abbrev pub settled : ℕ → Option ℕ → Option ℕ
settled behind None = None
settled behind (Some last) = if nat_le behind last then Some (last - behind) else None

abbrev pub settled_time : Timing → Source → List Next → Option ℕ
settled_time timing s lines = settled (margin timing s.slack) (greatest (times_of (rows_of lines)))

-- a time above a border, which may be none
abbrev pub is_above : Option ℕ → ℕ → Bool
is_above None t = true
is_above (Some border) t = nat_lt border t

-- a time that a round takes
abbrev pub is_up_to : Border → ℕ → Bool
is_up_to (At border) t = nat_le t border
is_up_to Closed t = true

-- the rows with a time above one border and up to another
abbrev pub is_between : Option ℕ → Border → Row → Bool
is_between above end row = unwrap_or (option_map (λ t. is_above above t && is_up_to end t) (time_in row)) false

abbrev pub rows_between : Option ℕ → Border → List Row → List Row
rows_between above end rows = filter (is_between above end) rows

-- how many rows have a time above the border and at most the settled time
abbrev pub count_settled : Timing → Option ℕ → Source → List Next → ℕ
count_settled timing above s lines = option_map_or (λ u. length (rows_between above (At u) (rows_of lines))) (settled_time timing s lines) 0

-- at least this many have
abbrev pub is_enough : Timing → ℕ → Option ℕ → Source → List Next → Bool
is_enough timing rows above s lines = nat_le rows (count_settled timing above s lines)

-- ---- one source in a round
-- what a source comes to in a round: it is open and settled up to this time; or closed; or its defect is met
pub data Turn : Type 0 where
  Open : (u : ℕ) → Turn
  Shut : Turn
  Meets : (row : ℕ) (why : Why) → Turn

-- where the reading stops: after enough rows; or, if they are not enough, after all lines or before a line with a defect
abbrev pub StopsAt : Timing → List Kind → Source → ℕ → Option ℕ → List Next → List Next → Turn → Type 0
StopsAt timing kinds s rows above whole now (Open u) =
    ((rest : List Next) × (whole ≡ now ++ rest)) × (is_enough timing rows above s now ≡ true) × (settled_time timing s now ≡ Some u)
StopsAt timing kinds s rows above whole now Shut = (whole ≡ now) × (is_enough timing rows above s now ≡ false)
StopsAt timing kinds s rows above whole now (Meets row why) =
    ((next : Next) × (rest : List Next) × (whole ≡ now ++ next ∷ rest) × (line_defect timing kinds s now next ≡ Some (row, why)))
    × (is_enough timing rows above s now ≡ false)

-- WHAT A ROUND READS of a source, of which these are all the lines and these were read before: the shortest list of its first
-- lines before any defect, not shorter than before, that is enough; and if there is none, all of them
pub record Reads (timing : Timing) (kinds : List Kind) (s : Source) (rows : ℕ) (above : Option ℕ) (whole before now : List Next) (turn : Turn) : Type 0 where
  pub more : List Next
  pub further : now ≡ before ++ more
  pub sound : defect_in timing kinds s now ≡ None
  pub shortest : (k : ℕ) → k < length more → is_enough timing rows above s (before ++ take k more) ≡ false
  pub stops : StopsAt timing kinds s rows above whole now turn

-- ---- a round
-- a border is not above the settled time of an open source, and no defect is met
abbrev pub IsWithin : ℕ → Turn → Type 0
IsWithin t (Open u) = t ≤ u
IsWithin t Shut = ⊤
IsWithin t (Meets row why) = ⊥

-- where the rows among these lines of the sources stand
abbrev pub ranks : Program → (ℕ → List Next) → List ℕ
ranks p reads = ranks_among p (λ e. rows_of (reads (length e.0)))

-- a time above one border and up to another
abbrev pub is_within : Option ℕ → Border → ℕ → Bool
is_within above end t = is_above above t && is_up_to end t

-- the ticks of a clock above one border and up to another, among these lines of the sources
abbrev pub ticks_between : Program → Option ℕ → Border → (ℕ → List Next) → Declared → List ℕ
ticks_between p above end reads e = filter (is_within above end) (ticks_of p (ranks p reads) e)

-- the tick of a clock with which a round above a border is full, if it has so many
abbrev pub last_tick : Program → ℕ → Option ℕ → (ℕ → List Next) → Declared → Option ℕ
last_tick p rows above reads e = slice_get (ticks_between p above Closed reads e) (rows - 1)

-- a round with a new border is full by a source that is open and settled up to the border, or by a clock
pub data IsFull (p : Program) (rows : ℕ) (above : Option ℕ) (whole before now : ℕ → List Next) (t : ℕ) : Type 0 where
  BySource : (i : ℕ) (s : Source) → slice_get p.sources i ≡ Some s → Reads (timing_of p i) p.kinds s rows above (whole i) (before i) (now i) (Open t)
      → IsFull p rows above whole before now t
  ByTick : (i : ℕ) (s : Source) → slice_get p.sources i ≡ Some s → last_tick p rows above now (take i p.sources, s) ≡ Some t
      → IsFull p rows above whole before now t

-- a round with a new border: no defect is met, and the border is the least of the settled times of the open sources and of the last ticks of
-- the clocks
pub record IsRoundAt (p : Program) (rows : ℕ) (above : Option ℕ) (whole before now : ℕ → List Next) (t : ℕ) : Type 0 where
  pub each : AtEach (λ i s. (turn : Turn) × Reads (timing_of p i) p.kinds s rows above (whole i) (before i) (now i) turn × IsWithin t turn) p.sources
  pub few : AtEach (λ i s. (last : ℕ) → last_tick p rows above now (take i p.sources, s) ≡ Some last → t ≤ last) p.sources
  pub full : IsFull p rows above whole before now t

-- the last round: all sources are closed, and no clock has ticks for another round
pub record IsLastRound (p : Program) (rows : ℕ) (above : Option ℕ) (whole before now : ℕ → List Next) : Type 0 where
  pub each : AtEach (λ i s. Reads (timing_of p i) p.kinds s rows above (whole i) (before i) (now i) Shut) p.sources
  pub few : AtEach (λ i s. last_tick p rows above now (take i p.sources, s) ≡ None) p.sources

-- A ROUND above a border, where these are all the lines of the sources, by the source's number; these were read before it,
-- and these are in it
abbrev pub IsRound : Program → ℕ → Option ℕ → (ℕ → List Next) → (ℕ → List Next) → (ℕ → List Next) → Border → Type 0
IsRound p rows above whole before now (At t) = IsRoundAt p rows above whole before now t
IsRound p rows above whole before now Closed = IsLastRound p rows above whole before now

-- no defect is met
abbrev pub IsPassed : Turn → Type 0
IsPassed (Open u) = ⊤
IsPassed Shut = ⊤
IsPassed (Meets row why) = ⊥

-- THE DEFECT OF A ROUND: the defect of the first source, as declared, whose defect is met
pub record IsRoundFault (p : Program) (rows : ℕ) (above : Option ℕ) (whole before : ℕ → List Next) (f : SourceFault) : Type 0 where
  pub now : ℕ → List Next
  pub earlier : AtEach (λ i s. i < f.source
      → (turn : Turn) × Reads (timing_of p i) p.kinds s rows above (whole i) (before i) (now i) turn × IsPassed turn) p.sources
  pub source : (s : Source) × (slice_get p.sources f.source ≡ Some s)
      × Reads (timing_of p f.source) p.kinds s rows above (whole f.source) (before f.source) (now f.source) (Meets f.row f.why)

-- ---- the rows of a round
-- the lists of the rows above one border and up to another, among these lines of each source: for each itag its events and the
-- heartbeats of its source, sorted by time, and the end; and of the ticks of clocks
abbrev pub lists_between : Program → Option ℕ → Border → (ℕ → List Next) → List (List Item)
lists_between p above end reads =
    lists_of_sources p (λ e. rows_between above end (rows_of (reads (length e.0)))) (ticks_between p above end reads)

-- ROUNDS ONE AFTER ANOTHER, from the first on, each with a new border, of a run that starts above a border, if there is one: the
-- lists of each, the border that they come to, and what has been read by then
pub data ComesFrom (p : Program) (rows : ℕ) (whole : ℕ → List Next) (start : Option ℕ) : List (List (List Item)) → Option ℕ → (ℕ → List Next) → Type 0 where
  Starts : (reads : ℕ → List Next) → ((i : ℕ) → reads i ≡ []) → ComesFrom p rows whole start [] start reads
  GoesOn : (done : List (List (List Item))) (above : Option ℕ) (before now : ℕ → List Next) (t : ℕ)
      → ComesFrom p rows whole start done above before
      → IsRoundAt p rows above whole before now t → ComesFrom p rows whole start (done ++ lists_between p above (At t) now ∷ []) (Some t) now

-- the same for a run from the first row on
abbrev pub ComesTo : Program → ℕ → (ℕ → List Next) → List (List (List Item)) → Option ℕ → (ℕ → List Next) → Type 0
ComesTo p rows whole done above before = ComesFrom p rows whole None done above before

-- ---- the fold of rounds
-- the state after the folds of some lists, each from the state after the one before it
abbrev pub state_in_turn : Program → Contents → List (List (List Item)) → Contents
state_in_turn p s [] = s
state_in_turn p s (lists ∷ rest) = state_in_turn p (final_state p s lists) rest

-- their outputs, one after another
abbrev pub outputs_in_turn : Program → Contents → List (List (List Item)) → List Out
outputs_in_turn p s [] = []
outputs_in_turn p s (lists ∷ rest) = final_outputs p s lists ++ outputs_in_turn p (final_state p s lists) rest

-- their reports, one after another
abbrev pub reports_in_turn : Program → Contents → List (List (List Item)) → List ℕ
reports_in_turn p s [] = []
reports_in_turn p s (lists ∷ rest) = report p (final_outputs p s lists) ++ reports_in_turn p (final_state p s lists) rest

-- some lists, folded in turn, give what one fold of other lists gives
pub record GiveTheFold (p : Program) (opening : Contents) (done : List (List (List Item))) (lists : List (List Item)) : Type 0 where
  pub state : state_in_turn p opening done ≡ final_state p opening lists
  pub outputs : outputs_in_turn p opening done ≡ final_outputs p opening lists
  pub reports : reports_in_turn p opening done ≡ report p (final_outputs p opening lists)

-- LAW OF ROUNDS: the rounds up to any one, folded in turn, give the fold of all rows that were read above the run's start, up to the
-- new border; after the last round these are all rows above it
abbrev pub LawOfRounds : Type 0
LawOfRounds =
    (p : Program) (opening : Contents) (rows : ℕ) (whole : ℕ
    → List Next) (start : Option ℕ) (done : List (List (List Item))) (above : Option ℕ) (before now : ℕ → List Next) (end : Border)
    → 1 ≤ rows → ComesFrom p rows whole start done above before → IsRound p rows above whole before now end
    → GiveTheFold p opening (done ++ lists_between p above end now ∷ []) (lists_between p start end now)

-- LAW OF NO ROWS: between a border and itself there is nothing to fold
abbrev pub LawOfNoRows : Type 0
LawOfNoRows = (p : Program) (opening : Contents) (t : ℕ) (reads : ℕ → List Next) → GiveTheFold p opening [] (lists_between p (Some t) (At t) reads)

-- these are the lines of the files of all sources; a clock has none
abbrev pub LinesIn : Program → Files → (ℕ → List Next) → Type 0
LinesIn p left whole = AtEach (λ i s. whole i ≡ lines_in (form_of (job_of p)) left s) p.sources

-- THE LAST ROUND: after it the rows that were read are all rows of the sources' files, and their lists are those of a whole reading
abbrev pub LawOfLastRound : Type 0
LawOfLastRound =
    (p : Program) (rows : ℕ) (above : Option ℕ) (whole before now : ℕ → List Next) (left : Files) → LinesIn p left whole
    → IsRound p rows above whole before now Closed
    → lists_between p None Closed now ≡ lists_of p left

-- for a run that starts above a border, they have the later events of a whole reading
abbrev pub LawOfLastAbove : Type 0
LawOfLastAbove =
    (p : Program) (rows : ℕ) (above : Option ℕ) (whole before now : ℕ → List Next) (left : Files) (t : ℕ) → LinesIn p left whole
    → IsRound p rows above whole before now Closed
    → merged (lists_between p (Some t) Closed now) ≡ merged (beyond p t (lists_of p left))
