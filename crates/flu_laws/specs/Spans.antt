-- EFFECTS: what parts of the events of a fold do to a cell.
use Rattle.std.specs.Prelude.{◌≡◌, ℕ, ◌+◌, ◌<◌, ◌≤◌, Bool, true, false, nat_le, nat_lt, ◌==◌, ◌&&◌, Option, None, List, [], ◌∷◌, ◌++◌, map, slice_index}
use Rattle.std.specs.Prelude.{if◌then◌else◌}
use Rattle.std.specs.List.{filter, AllByRecursion}
use Rattle.flu_model.specs.declared.events.Cell.{Cell}
use Rattle.flu_model.specs.declared.events.Event.{Event}
use Rattle.flu_model.specs.declared.events.Worth.{Worth}
use Rattle.flu_model.specs.declared.jobs.Program.{Program}
use Rattle.flu_model.specs.Contents.{Contents, joined_worth}
use Rattle.flu_model.specs.Modes.{modes_conflict}
use Rattle.flu_model.specs.Sorts.{IsStateOf}
use Rattle.flu_model.specs.Updates.{effect_of}
use Rattle.flu_laws.specs.Changes.{Change, applied, change_of}
use Rattle.flu_laws.specs.Uses.{needs, mode_at, AgreeOnNeeds}

-- an event of the fold, with its place among the events of its itag, from 0, and the state before it
pub record Moment : Type 0 where
  pub event : Event
  pub index : ℕ
  pub before : Contents

-- the moments of a fold; `seen` says how many events of each itag came before
abbrev pub history : Program → Contents → (ℕ → ℕ) → List Event → List Moment
history p s seen [] = []
history p s seen (x ∷ xs) =
    record { event = x; index = seen x.itag.0; before = s }
    ∷ history p (effect_of p s x).cells (λ i. if i == x.itag.0 then seen i + 1 else seen i) xs

-- their events are those of the fold
abbrev pub MomentsAreOfEvents : Type 0
MomentsAreOfEvents = (p : Program) (s : Contents) (seen : ℕ → ℕ) (xs : List Event) → map (λ (m : Moment). m.event) (history p s seen xs) ≡ xs

-- of the moments of one itag, each has a greater place than those before it
abbrev pub PlacesRise : Type 0
PlacesRise =
    (p : Program) (s : Contents) (seen : ℕ → ℕ) (xs : List Event) (before after : List Moment) (m : Moment)
    → history p s seen xs ≡ before ++ m ∷ after
    → AllByRecursion (λ q. q.event.itag.0 ≡ m.event.itag.0 → q.index < m.index) before

-- the moment's event is below the counts of events by itag
abbrev pub is_below : List ℕ → Moment → Bool
is_below upto m = nat_lt m.index (slice_index upto m.event.itag.0)

-- its event is not below the first counts, and below the second
abbrev pub is_between : List ℕ → List ℕ → Moment → Bool
is_between since upto m = nat_le (slice_index since m.event.itag.0) m.index && is_below upto m

abbrev pub change_at : Program → Cell → Moment → Change
change_at p c m = change_of p m.before m.event c

-- what a cell holds after the changes of some moments, in order
abbrev pub changed_by : Program → Cell → Option Worth → List Moment → Option Worth
changed_by p c w [] = w
changed_by p c w (m ∷ ms) = changed_by p c (applied (change_at p c m) w) ms

-- the effects on a cell of the events between two counts, from neutral
abbrev pub span : Program → List Moment → Cell → List ℕ → List ℕ → Option Worth
span p ms c since upto = changed_by p c None (filter (is_between since upto) ms)

-- the effects of the events below the counts, from the opening value
abbrev pub value_below : Program → List Moment → Option Worth → Cell → List ℕ → Option Worth
value_below p ms opening c upto = changed_by p c opening (filter (is_below upto) ms)

abbrev pub AreAtMost : List ℕ → List ℕ → Type 0
AreAtMost since upto = (i : ℕ) → slice_index since i ≤ slice_index upto i

-- spans add up over counts if no event between the first and the last counts needs the cell, so that all of them add to it or all raise it
abbrev pub SpansAddUp : Type 0
SpansAddUp =
    (p : Program) (ms : List Moment) (c : Cell) (a b d : List ℕ)
    → AllByRecursion (λ m. is_between a d m ≡ true → needs (mode_at p m.event c) ≡ false) ms → AreAtMost a b → AreAtMost b d
    → joined_worth (span p ms c a b) (span p ms c b d) ≡ span p ms c a d

-- what an event's tag does to a cell goes with what a moment's tag does there
abbrev pub GoesWith : Program → Cell → Event → Moment → Type 0
GoesWith p c x m = modes_conflict (mode_at p x c) (mode_at p m.event c) ≡ false

-- A state holds in a cell the effects of some moments. An event that comes before some of them, which all go with it there,
-- updates the cell to the effects of these moments and its own, in their order, if the state has the fold's values at the cells that the event needs.
abbrev pub UpdatesInPlace : Type 0
UpdatesInPlace =
    (p : Program) (s : Contents) (before after : List Moment) (m : Moment) (c : Cell) (w : Option Worth)
    → IsStateOf p.families s → AgreeOnNeeds p m.event s m.before
    → s c ≡ changed_by p c w (before ++ after)
    → AllByRecursion (GoesWith p c m.event) after
    → (effect_of p s m.event).cells c ≡ changed_by p c w (before ++ m ∷ after)
