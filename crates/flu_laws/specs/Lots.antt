-- What the cells of a part of the state hold by counts of events, and when an event may be counted.
use Rattle.std.specs.Prelude.{◌≡◌, ℕ, ◌+◌, ◌<◌, ◌≤◌, Bool, true, false, ◌==◌, None, List, ◌∷◌, ◌++◌, slice_index, if◌then◌else◌}
use Rattle.std.specs.List.{AllByRecursion}
use Rattle.flu_model.specs.declared.events.Cell.{Cell}
use Rattle.flu_model.specs.declared.events.Event.{Event}
use Rattle.flu_model.specs.declared.jobs.Program.{Program}
use Rattle.flu_model.specs.Contents.{Contents}
use Rattle.flu_model.specs.Itags.{tag_of_itag, is_dependent, count_of_itags}
use Rattle.flu_model.specs.Modes.{IsAccepted}
use Rattle.flu_model.specs.Sorts.{IsStateOf}
use Rattle.flu_model.specs.Updates.{effect_of}
use Rattle.flu_laws.specs.Spans.{Moment, history, is_below, value_below, span}
use Rattle.flu_laws.specs.Uses.{needs, writes, mode_at}

-- a part's cells fit its counts: base cells hold the fold's value at `upto`, away cells are neutral, and the others hold the effects of the events
-- from `since` to below `upto`
pub record CellsFit (p : Program) (ms : List Moment) (opening : Contents) (is_base is_away : Cell → Bool) (s : Contents) (since upto : List ℕ) : Type 0 where
  pub base : (c : Cell) → is_base c ≡ true → s c ≡ value_below p ms (opening c) c upto
  pub away : (c : Cell) → is_away c ≡ true → s c ≡ None
  pub rest : (c : Cell) → is_base c ≡ false → is_away c ≡ false → s c ≡ span p ms c since upto

-- the tags of two moments are dependent
abbrev pub depends_on : Program → Moment → Moment → Bool
depends_on p m q = is_dependent p (tag_of_itag p m.event.itag) (tag_of_itag p q.event.itag)

-- of the events on which m's tag depends, those before m are counted and no other; and m comes next of its itag
pub record IsExact (p : Program) (before after : List Moment) (m : Moment) (upto : List ℕ) : Type 0 where
  pub next : slice_index upto m.event.itag.0 ≡ m.index
  pub counted : AllByRecursion (λ q. depends_on p m q ≡ true → is_below upto q ≡ true) before
  pub others : AllByRecursion (λ q. depends_on p m q ≡ true → is_below upto q ≡ false) after

-- the counts with one more at an itag
abbrev pub CountsOneMore : ℕ → List ℕ → List ℕ → Type 0
CountsOneMore i upto more = (j : ℕ) → slice_index more j ≡ (if j == i then slice_index upto j + 1 else slice_index upto j)

-- the event goes with the classes of cells: those that it needs are base, and it does not write those that are away
pub record GoesWithClasses (p : Program) (x : Event) (is_base is_away : Cell → Bool) : Type 0 where
  pub needed : (c : Cell) → needs (mode_at p x c) ≡ true → is_base c ≡ true
  pub away : (c : Cell) → is_away c ≡ true → writes (mode_at p x c) ≡ false

-- what is said of a part whose cells fit, updated with an event that is exact for its counts
pub record UpdatesToFit (p : Program) (ms : List Moment) (m : Moment) (opening : Contents) (is_base is_away : Cell → Bool)
    (s : Contents) (since more : List ℕ) : Type 0 where
  pub cells : CellsFit p ms opening is_base is_away (effect_of p s m.event).cells since more
  pub texts : (effect_of p s m.event).texts ≡ (effect_of p m.before m.event).texts

-- CENTRAL LAW: its cells fit again with this event counted, and the texts are the fold's
abbrev pub CentralLaw : Type 0
CentralLaw =
    (p : Program) (opening : Contents) (xs : List Event) (before after : List Moment) (m : Moment)
    (is_base is_away : Cell → Bool) (s : Contents) (since upto more : List ℕ)
    → IsAccepted p → IsStateOf p.families opening → IsStateOf p.families s
    → AllByRecursion (λ x. x.itag.0 < count_of_itags p) xs
    → history p opening (λ i. 0) xs ≡ before ++ m ∷ after
    → GoesWithClasses p m.event is_base is_away
    → slice_index since m.event.itag.0 ≤ m.index → CountsOneMore m.event.itag.0 upto more
    → IsExact p before after m upto
    → CellsFit p (before ++ m ∷ after) opening is_base is_away s since upto
    → UpdatesToFit p (before ++ m ∷ after) m opening is_base is_away s since more
