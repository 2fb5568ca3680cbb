-- What is held of one source, and how it is read in a round, or whole.
use Rattle.std.specs.Prelude.{◌≡◌, ℕ, ◌+◌, ◌*◌, ◌<◌, ◌≤◌, max, min, true, false, ◌||◌, nat_lt, nat_le, Option, Some, None, option_and_then, unwrap_or, List}
use Rattle.std.specs.Prelude.{[], ◌∷◌}
use Rattle.std.specs.Prelude.{◌++◌, length, take, slice_get, if◌then◌else◌, ⊤, Bool, is_some, option_map}
use Rattle.std.specs.List.{filter, list_all}
use Rattle.flu_model.specs.Erasure.{job_of}
use Rattle.flu_lemmas.specs.Counting.{times}
use Rattle.flu_lemmas.specs.Elements.{AtEach}
use Rattle.flu_lemmas.specs.Late.{put_late}
use Rattle.flu_model.specs.declared.events.Item.{Item}
use Rattle.flu_model.specs.declared.jobs.Kind.{Kind}
use Rattle.flu_model.specs.declared.jobs.Source.{Source}
use Rattle.flu_model.specs.declared.jobs.Program.{Program}
use Rattle.flu_model.specs.declared.moments.Timing.{Timing}
use Rattle.flu_model.specs.Moments.{timing_of, last_moment}
use Rattle.flu_model.specs.Rules.{is_clock}
use Rattle.flu_outside.specs.Outside.{Contents, WhereTold, Rose}
use Rattle.flu_outside.specs.Taking.{IsReadOut}
use Rattle.flu_rows.specs.declared.row.Row.{Row}
use Rattle.flu_rows.specs.declared.rows.Next.{Next}
use Rattle.flu_rows.specs.declared.rows.Next.TheVariants.{Row as RowNext, Bad, TooManyLines, Done}
use Rattle.flu_rows.specs.Lines.{IsUndecided}
use Rattle.flu_rows.specs.Row.{form_of}
use Rattle.flu_rows.specs.Reading.{Place, ahead}
use Rattle.flu_streams.specs.declared.border.Border.{Border}
use Rattle.flu_streams.specs.declared.border.Border.TheVariants.{At, Closed}
use Rattle.flu_streams.specs.declared.faults.GatherFault.{GatherFault}
use Rattle.flu_streams.specs.declared.faults.Why.{Why}
use Rattle.flu_streams.specs.declared.faults.Why.TheVariants.{AfterEnd, TooMany}
use Rattle.flu_streams.specs.declared.held.Stage.{Stage}
use Rattle.flu_streams.specs.declared.held.Stage.TheVariants.{Filling, Filled, Over}
use Rattle.flu_streams.specs.declared.inlet.Inlet.{Inlet}
use Rattle.flu_streams.specs.declared.stop.Stop.{Stop}
use Rattle.flu_streams.specs.declared.stop.Stop.TheVariants.{Defect, ReadFault, NoMemory}
use Rattle.flu_streams.specs.Before.{first_some, or_else}
use Rattle.flu_streams.specs.Holding.{HeldSource, IsHeldBehind, IsNewBorder, first_itag, item_of, most_of, still}
use Rattle.flu_streams.specs.Lists.{item_time}
use Rattle.flu_streams.specs.LoopClocks.{FewTicks, span_of}
use Rattle.flu_streams.specs.LoopMoments.{border_moment, own_times, at_moment, item_at_moment}
use Rattle.flu_streams.specs.LoopStop.{fault_of_stop}
use Rattle.flu_streams.specs.Rounds.{defect_in, line_defect, is_above, is_up_to, is_enough, settled, settled_time}
use Rattle.flu_streams.specs.Tags.{width}
use Rattle.flu_streams.specs.Tests.{rows_of, is_end, time_in, items_in, items_of, where_true, margin, test_range, test_tag, test_fields, test_item, test_behind}

-- what contracts see of it
abbrev pub source_of : Inlet → HeldSource
source_of h = record { items = h.items; place = h.rows; first = h.first; last = h.last; ended = h.ended; closed = h.closed; goal = h.goal }

-- ---- how many items are settled
-- how many of some items come no later than a time
abbrev pub count_to : ℕ → List Item → ℕ
count_to u items = length (filter (λ item. nat_le (item_time item) u) items)

-- the settled time, if this many of the items come no later
abbrev pub enough_of : Timing → ℕ → ℕ → Option ℕ → List Item → Option ℕ
enough_of timing rows slack last items =
    option_and_then (λ u. if nat_le rows (count_to (last_moment timing u) items) then Some u else None) (settled (margin timing slack) last)

-- the same, if the reading has reached the border of the run
abbrev pub without : Option ℕ → Option ℕ → Option ℕ
without None found = found
without (Some goal) found = None

abbrev pub enough_in : Timing → ℕ → ℕ → HeldSource → Option ℕ
enough_in timing rows slack h = without h.goal (enough_of timing rows slack h.last h.items)

-- the same where no number is given: then nothing is enough
abbrev pub enough_for : Timing → Option ℕ → ℕ → HeldSource → Option ℕ
enough_for timing None slack h = None
enough_for timing (Some rows) slack h = enough_in timing rows slack h

-- whether these lines are enough
abbrev pub are_enough : Timing → Option ℕ → Option ℕ → Source → List Next → Bool
are_enough timing None above s lines = false
are_enough timing (Some rows) above s lines = is_enough timing rows above s lines

-- a border that is still to be reached is not settled
abbrev pub IsBefore : ℕ → HeldSource → Type 0
IsBefore behind h = (t u : ℕ) → h.goal ≡ Some t → settled behind h.last ≡ Some u → u < t

-- what is held is not enough
abbrev pub IsShort : Timing → Option ℕ → Source → HeldSource → Type 0
IsShort timing rows s h = (enough_for timing rows s.slack h ≡ None) × IsBefore (margin timing s.slack) h

-- ---- how many items are held
-- how many are of the run: those above the border that is still to be reached, and all if there is none
abbrev pub count_above : Timing → Option ℕ → List Item → ℕ
count_above timing goal items = length (filter (λ item. is_above (border_moment timing goal) (item_time item)) items)

-- as many as a round needs, and as many as the source may have at each time within the margin
abbrev pub IsFew : Option ℕ → Source → Inlet → Type 0
IsFew None s h = ⊤
IsFew (Some rows) s h = count_above h.timing h.goal h.items ≤ rows + margin h.timing s.slack * h.timing.ties

-- of a source whose border is still to be reached, one more item may be held
abbrev pub HasRoom : Inlet → Type 0
HasRoom h = (t : ℕ) → h.goal ≡ Some t → length h.items < most_of h.timing

-- how many are held with some more, where they are counted
abbrev pub held_with : Option ℕ → ℕ → Option ℕ
held_with None more = None
held_with (Some held) more = Some (held + more)

-- the test of that many
abbrev pub test_held : Option ℕ → ℕ → Option Why
test_held None more = None
test_held (Some held) more = where_true (nat_lt 16777216 (held + more)) (TooMany 16777217)

-- the defect of a line by that test, after these lines of the source
abbrev pub too_many : Option ℕ → Source → List Next → Next → Option (ℕ × Why)
too_many held s read (RowNext line row) =
    option_map (λ why. (line, why)) (test_held held (items_of (width s) (rows_of read) + items_in (width s) row))
too_many held s read (Bad line) = None
too_many held s read TooManyLines = None
too_many held s read (Done lines) = None

-- there are no more than may be held, where they are counted
abbrev pub Fits : Option ℕ → Source → List Next → Type 0
Fits held s read = (n : ℕ) → held ≡ Some n → n + items_of (width s) (rows_of read) ≤ 16777216

-- ---- a row
-- the test of a time after these items, with this as the greatest time that was read
abbrev pub test_late : Timing → ℕ → List ℕ → Option ℕ → Option ℕ → Option Why
test_late timing slack times last None = None
test_late timing slack times last (Some time) = test_behind timing slack times last time

-- the tests of a row after these items, except the one on how many are held
abbrev pub tests_behind : List Kind → Source → Inlet → Row → List (Option Why)
tests_behind kinds s h row =
    where_true h.ended AfterEnd ∷ test_range h.timing row ∷ test_tag kinds s row ∷ test_fields kinds row ∷ test_item row
    ∷ test_late h.timing s.slack (own_times h.timing h.items) h.last (time_in row) ∷ []

-- which rule a row breaks after these items
abbrev pub fault_behind : List Kind → Source → Inlet → Row → Option Why
fault_behind kinds s h row = first_some (λ test. test) (tests_behind kinds s h row ++ test_held h.held (items_in (width s) row) ∷ [])

-- which rule an item breaks at a time, if it counts as this many
abbrev pub fault_at : Timing → ℕ → List ℕ → Option ℕ → Option ℕ → ℕ → ℕ → Option Why
fault_at timing slack times last held time count = first_some (λ test. test) (test_late timing slack times last (Some time) ∷ test_held held count ∷ [])

-- an event or a heartbeat is put where its time belongs, and the end is not held
abbrev pub put_timed : Option ℕ → Item → List Item → List Item
put_timed None item items = items
put_timed (Some time) item items = put_late item_time item items

abbrev pub later_of : Option ℕ → Option ℕ → Option ℕ
later_of last None = last
later_of last (Some time) = Some (max (unwrap_or last 0) time)

abbrev pub sooner_of : Option ℕ → Option ℕ → Option ℕ
sooner_of first None = first
sooner_of first (Some time) = Some (min (unwrap_or first time) time)

-- a row passes its tests, and is held at its moment
pub record PutsIn (kinds : List Kind) (s : Source) (first : ℕ) (row : Row) (old new : Inlet) : Type 0 where
  pub passes : fault_behind kinds s old row ≡ None
  pub items : new.items ≡ put_timed (time_in row) (item_of kinds s first (at_moment old.timing (own_times old.timing old.items) row)) old.items
  pub timing : new.timing ≡ old.timing
  pub rows : new.rows ≡ old.rows
  pub earliest : new.first ≡ sooner_of old.first (time_in row)
  pub last : new.last ≡ later_of old.last (time_in row)
  pub ended : new.ended ≡ (old.ended || is_end row)
  pub closed : new.closed ≡ old.closed
  pub goal : new.goal ≡ old.goal
  pub held : new.held ≡ held_with old.held (items_in (width s) row)

-- an item, which counts as this many, is put where its moment belongs
pub record PutsItem (item : Item) (count : ℕ) (old new : Inlet) : Type 0 where
  pub items : new.items ≡ put_late item_time (item_at_moment old.timing (own_times old.timing old.items) item) old.items
  pub timing : new.timing ≡ old.timing
  pub rows : new.rows ≡ old.rows
  pub first : new.first ≡ sooner_of old.first (Some (item_time item))
  pub last : new.last ≡ Some (max (unwrap_or old.last 0) (item_time item))
  pub ended : new.ended ≡ old.ended
  pub closed : new.closed ≡ old.closed
  pub goal : new.goal ≡ old.goal
  pub held : new.held ≡ held_with old.held count

-- ---- what holds between rounds
-- if more is to be read, a border is settled
abbrev pub IsSettledAt : Source → Option ℕ → Inlet → Type 0
IsSettledAt s border h =
    h.closed ≡ false → (t : ℕ) → border ≡ Some t → (u : ℕ) × (settled (margin h.timing s.slack) h.last ≡ Some u) × (t ≤ u)

-- of a source the items above the last border are held, or the reading has yet to reach it
pub record IsWellAt (timing : Timing) (s : Source) (border : Option ℕ) (h : Inlet) : Type 0 where
  pub timing_is : h.timing ≡ timing
  pub file : h.rows.file ≡ s.file
  pub goal : (t : ℕ) → h.goal ≡ Some t → border ≡ Some t
  pub clock : is_clock s ≡ true → h.closed ≡ true
  pub above : h.goal ≡ None → list_all (λ item. is_above (border_moment timing border) (item_time item)) h.items ≡ true
  pub settled : h.goal ≡ None → IsSettledAt s border h

pub record AreWell (p : Program) (rows : ℕ) (border : Option ℕ) (inlets : List Inlet) : Type 0 where
  pub some : 1 ≤ rows
  pub most : rows ≤ 4096
  pub count : length inlets ≡ length p.sources
  pub forms : AtEach (λ i h. h.rows.form ≡ form_of (job_of p)) inlets
  pub few : AtEach (λ i s. (h : Inlet) → slice_get inlets i ≡ Some h → IsFew (Some rows) s h) p.sources
  pub each : AtEach (λ i s. (h : Inlet) → slice_get inlets i ≡ Some h → IsWellAt (timing_of p i) s border h) p.sources

-- a new border is above the last one, and settled
abbrev pub IsSettledBy : Program → Option ℕ → Border → List Inlet → Type 0
IsSettledBy p border (At t) inlets = (is_above border t ≡ true) × AtEach (λ i s. (h : Inlet) → slice_get inlets i ≡ Some h → IsSettledAt s (Some t) h) p.sources
IsSettledBy p border Closed inlets = ⊤

-- the reading of no source has yet to reach a border
abbrev pub AreCaughtUp : List Inlet → Type 0
AreCaughtUp inlets = (i : ℕ) (h : Inlet) → slice_get inlets i ≡ Some h → h.goal ≡ None

-- the rows of each source are numbered as the job says
abbrev pub AreTimed : Program → List Inlet → Type 0
AreTimed p inlets = AtEach (λ i h. h.timing ≡ timing_of p i) inlets

-- of no source the items are counted: a round holds few
abbrev pub AreUncounted : List Inlet → Type 0
AreUncounted inlets = AtEach (λ i h. is_some h.held ≡ false) inlets

-- nothing more is required after a call that failed
abbrev pub IsWellIn : Program → ℕ → Option ℕ → Stage → List Inlet → Type 0
IsWellIn p rows border Filling inlets = AreWell p rows border inlets
IsWellIn p rows border (Filled b) inlets =
    AreWell p rows border inlets × IsSettledBy p border b inlets × AreCaughtUp inlets × FewTicks p rows border (span_of p inlets) b
IsWellIn p rows border Over inlets = ⊤

abbrev pub IsWell : Program → ℕ → Option ℕ → Stage → List Inlet → Type 0
IsWell p rows border stage inlets = IsWellIn p rows border stage inlets × AreUncounted inlets

-- ---- the earliest border
abbrev pub earlier_of : Border → Border → Border
earlier_of Closed b = b
earlier_of (At t) Closed = At t
earlier_of (At t) (At u) = At (min t u)

abbrev pub earliest : List Border → Border
earliest [] = Closed
earliest (b ∷ bs) = earlier_of b (earliest bs)

-- ---- a resumed run
-- the items up to a border are dropped once it is settled, or nothing more is to be read; before that some that are settled may be dropped
pub data IsCaughtUp (slack : ℕ) (old new : Inlet) : Type 0 where
  Stays : new.items ≡ old.items → new.goal ≡ old.goal → IsCaughtUp slack old new
  Drops : (t goal : ℕ) → old.closed ≡ false → settled (margin old.timing slack) old.last ≡ Some t → t < goal → old.goal ≡ Some goal → new.goal ≡ Some goal
      → new.items ≡ filter (λ item. nat_lt (last_moment old.timing t) (item_time item)) old.items → IsCaughtUp slack old new
  Comes : (goal : ℕ) → (old.closed ≡ false → (u : ℕ) × (settled (margin old.timing slack) old.last ≡ Some u) × (goal ≤ u)) → old.goal ≡ Some goal
      → new.goal ≡ None
      → new.items ≡ filter (λ item. nat_lt (last_moment old.timing goal) (item_time item)) old.items → IsCaughtUp slack old new

pub record CatchesUp (slack : ℕ) (old new : Inlet) : Type 0 where
  pub timing : new.timing ≡ old.timing
  pub rows : new.rows ≡ old.rows
  pub first : new.first ≡ old.first
  pub last : new.last ≡ old.last
  pub ended : new.ended ≡ old.ended
  pub closed : new.closed ≡ old.closed
  pub held : new.held ≡ old.held
  pub items : IsCaughtUp slack old new
  pub before : IsBefore (margin new.timing slack) (source_of new)
  pub shut : new.closed ≡ true → new.goal ≡ None
  pub room : HasRoom new

-- ---- one source in a refill
-- what more was read of a source, after these lines: before its last line they were not enough
pub record IsRefilling (timing : Timing) (kinds : List Kind) (s : Source) (first : ℕ) (rows above : Option ℕ) (before : List Next) (old new : Inlet)
    (left left' : Option Contents) : Type 0 where
  pub more : List Next
  pub behind : IsHeldBehind timing kinds first s above (before ++ more) (source_of new)
  pub shortest : (k : ℕ) → k < length more → are_enough timing rows above s (before ++ take k more) ≡ false
  pub held : new.held ≡ held_with old.held (items_of (width s) (rows_of more))
  pub told : WhereTold left left' (λ was is. still (source_of old) was ≡ more ++ still (source_of new) is)

-- where the reading stops: the rows are enough, up to this time; or the source is closed
abbrev pub EndsAt : Timing → Source → Option ℕ → Option ℕ → List Next → Inlet → Border → Type 0
EndsAt timing s rows above now new (At u) = (are_enough timing rows above s now ≡ true) × (settled_time timing s now ≡ Some u)
EndsAt timing s rows above now new Closed = (new.closed ≡ true) × (are_enough timing rows above s now ≡ false)

pub record Refills (timing : Timing) (kinds : List Kind) (s : Source) (first : ℕ) (rows above : Option ℕ) (before : List Next) (old new : Inlet)
    (left left' : Option Contents) (end : Border) : Type 0 where
  pub so_far : IsRefilling timing kinds s first rows above before old new left left'
  pub ends : EndsAt timing s rows above (before ++ so_far.more) new end

-- the same, by only what is held
abbrev pub IsTurnOf : Source → Inlet → Border → Type 0
IsTurnOf s h (At u) = settled (margin h.timing s.slack) h.last ≡ Some u
IsTurnOf s h Closed = h.closed ≡ true

pub record IsRefilled (kinds : List Kind) (s : Source) (first : ℕ) (rows : Option ℕ) (old new : Inlet) (left left' : Option Contents)
    (end : Border) : Type 0 where
  pub timing : new.timing ≡ old.timing
  pub form : new.rows.form ≡ old.rows.form
  pub keeps : (border : Option ℕ) → IsWellAt old.timing s border old → IsWellAt old.timing s border new
  pub few : IsFew rows s old → IsFew rows s new
  pub caught : new.goal ≡ None
  pub border : (above : Option ℕ) → IsWellAt old.timing s above old → IsNewBorder above end
  pub turn : IsTurnOf s new end
  pub out : (old.closed ≡ true → IsReadOut s.file left) → new.closed ≡ true → IsReadOut s.file left'
  pub reads : (above : Option ℕ) (before : List Next) → IsHeldBehind old.timing kinds first s above before (source_of old)
      → Refills old.timing kinds s first rows above before old new left left' end

-- a defect is met after lines that are not enough
pub record MeetsDefect (timing : Timing) (kinds : List Kind) (s : Source) (rows above : Option ℕ) (before : List Next) (old : Inlet)
    (left left' : Option Contents)
    (row : ℕ) (why : Why) : Type 0 where
  pub more : List Next
  pub next : Next
  pub sound : defect_in timing kinds s (before ++ more) ≡ None
  pub few : (k : ℕ) → k ≤ length more → are_enough timing rows above s (before ++ take k more) ≡ false
  pub fits : Fits old.held s more
  pub defect : or_else (line_defect timing kinds s (before ++ more) next) (too_many old.held s more next) ≡ Some (row, why)
  pub told : WhereTold left left' (λ was is. (rest : List Next) × (still (source_of old) was ≡ more ++ next ∷ rest))

-- a read fails after lines that are not enough
pub record StopsBehind (timing : Timing) (kinds : List Kind) (s : Source) (rows above : Option ℕ) (before : List Next) (old : Inlet)
    (left left' : Option Contents) : Type 0 where
  pub more : List Next
  pub place : Place
  pub sound : defect_in timing kinds s (before ++ more) ≡ None
  pub few : (k : ℕ) → k ≤ length more → are_enough timing rows above s (before ++ take k more) ≡ false
  pub fits : Fits old.held s more
  pub form : place.form ≡ old.rows.form
  pub file : place.file ≡ s.file
  pub undecided : IsUndecided place.taken
  pub told : WhereTold left left' (λ was is. still (source_of old) was ≡ more ++ ahead place is)

abbrev pub IsStopOf : List Kind → Source → ℕ → Option ℕ → Inlet → Option Contents → Option Contents → Stop → Type 0
IsStopOf kinds s first rows old left left' (Defect row why) = (above : Option ℕ) (before : List Next)
    → IsHeldBehind old.timing kinds first s above before (source_of old)
    → MeetsDefect old.timing kinds s rows above before old left left' row why
IsStopOf kinds s first rows old left left' ReadFault = (above : Option ℕ) (before : List Next)
    → IsHeldBehind old.timing kinds first s above before (source_of old)
    → StopsBehind old.timing kinds s rows above before old left left'
IsStopOf kinds s first rows old left left' NoMemory = ⊤

-- ---- all sources in a refill
-- the first sources, as many as there are ends, were read
pub record AreRefilled (p : Program) (rows : ℕ) (olds news : List Inlet) (left left' : Option Contents) (ends : List Border) : Type 0 where
  pub size : length news ≡ length olds
  pub each : AtEach (λ i s. (end : Border) (old new : Inlet) → slice_get ends i ≡ Some end → slice_get olds i ≡ Some old → slice_get news i ≡ Some new
      → IsRefilled p.kinds s (first_itag p i) (Some rows) old new left left' end) p.sources

-- all were read, and this is the earliest border
pub record HasRefilled (p : Program) (rows : ℕ) (olds news : List Inlet) (left left' : Option Contents) (end : Border) : Type 0 where
  pub ends : List Border
  pub count : length ends ≡ length p.sources
  pub all : AreRefilled p rows olds news left left' ends
  pub earliest : end ≡ earliest ends

-- the first sources were read, and the next one stopped
pub record StopsAtSource (p : Program) (rows : ℕ) (olds : List Inlet) (left left' : Option Contents) (faults faults' : List ℕ → ℕ)
    (fault : GatherFault) : Type 0 where
  pub ends : List Border
  pub news : List Inlet
  pub all : AreRefilled p rows olds news left left' ends
  pub source : Source
  pub is : slice_get p.sources (length ends) ≡ Some source
  pub has_file : is_clock source ≡ false
  pub stop : Stop
  pub cause : fault ≡ fault_of_stop (length ends) stop
  pub rose : stop ≡ ReadFault → Rose (faults source.file) (faults' source.file)
  pub own : (old : Inlet) → slice_get olds (length ends) ≡ Some old → IsStopOf p.kinds source (first_itag p (length ends)) (Some rows) old left left' stop

-- ---- a cut
-- the items that a round takes; the border is one of moments
abbrev pub taken_by : Border → List Item → List Item
taken_by end items = filter (λ item. is_up_to end (item_time item)) items

-- the items up to a time are dropped
pub record DropsTo (time : ℕ) (old new : Inlet) : Type 0 where
  pub items : new.items ≡ filter (λ item. nat_lt (last_moment old.timing time) (item_time item)) old.items
  pub timing : new.timing ≡ old.timing
  pub rows : new.rows ≡ old.rows
  pub first : new.first ≡ old.first
  pub last : new.last ≡ old.last
  pub ended : new.ended ≡ old.ended
  pub closed : new.closed ≡ old.closed
  pub goal : new.goal ≡ old.goal
  pub held : new.held ≡ old.held

pub record AreDropped (time : ℕ) (olds news : List Inlet) : Type 0 where
  pub size : length news ≡ length olds
  pub each : (i : ℕ) (old new : Inlet) → slice_get olds i ≡ Some old → slice_get news i ≡ Some new → DropsTo time old new

-- this is held of all sources after these lines of each
abbrev pub AreBehind : Program → Option ℕ → (ℕ → List Next) → List Inlet → Type 0
AreBehind p border lines inlets =
    AtEach (λ i s. (h : Inlet) → slice_get inlets i ≡ Some h → IsHeldBehind (timing_of p i) p.kinds (first_itag p i) s border (lines i) (source_of h)) p.sources
