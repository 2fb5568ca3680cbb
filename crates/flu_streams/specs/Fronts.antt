-- What defects mean for rounds: if no source has one, the rounds up to any border give a prefix of what the whole gives; and one that
-- is met is the first of its source.
use Rattle.std.specs.Prelude.{◌≡◌, ℕ, ◌≤◌, List, Option, Some, None}
use Rattle.flu_lemmas.specs.Elements.{AtEach}
use Rattle.flu_model.specs.declared.events.Item.{Item}
use Rattle.flu_model.specs.declared.jobs.Kind.{Kind}
use Rattle.flu_model.specs.declared.jobs.Source.{Source}
use Rattle.flu_model.specs.declared.jobs.Program.{Program}
use Rattle.flu_model.specs.declared.moments.Timing.{Timing}
use Rattle.flu_model.specs.Moments.{timing_of}
use Rattle.flu_model.specs.Contents.{Contents}
use Rattle.flu_outside.specs.Outside.{Contents as Files}
use Rattle.flu_rows.specs.declared.rows.Next.{Next}
use Rattle.flu_streams.specs.declared.border.Border.TheVariants.{At, Closed}
use Rattle.flu_streams.specs.declared.faults.Why.{Why}
use Rattle.flu_streams.specs.Borders.{FoldsInTurn, beyond}
use Rattle.flu_streams.specs.Good.{lists_of}
use Rattle.flu_streams.specs.Rounds.{Meets, Reads, ComesFrom, ComesTo, LinesIn, defect_in, lists_between}

-- LAW OF FRONTS: the fold of all rows is the fold of the rows of the rounds up to a border, and then the fold of the later ones
abbrev pub LawOfFronts : Type 0
LawOfFronts =
    (p : Program) (opening : Contents) (rows : ℕ) (whole : ℕ → List Next) (done : List (List (List Item))) (t : ℕ) (before : ℕ → List Next) (left : Files)
    → LinesIn p left whole → AtEach (λ i s. defect_in (timing_of p i) p.kinds s (whole i) ≡ None) p.sources
    → ComesTo p rows whole done (Some t) before
    → FoldsInTurn p opening (lists_of p left) (lists_between p None (At t) before) (lists_between p (Some t) Closed whole)

-- for a run that starts above a border the same holds with the later events
abbrev pub LawOfFrontsAbove : Type 0
LawOfFrontsAbove =
    (p : Program) (opening : Contents) (rows : ℕ) (whole : ℕ → List Next) (start : ℕ) (done : List (List (List Item))) (t : ℕ) (before : ℕ → List Next)
    (left : Files)
    → 1 ≤ rows → LinesIn p left whole → AtEach (λ i s. defect_in (timing_of p i) p.kinds s (whole i) ≡ None) p.sources
    → ComesFrom p rows whole (Some start) done (Some t) before
    → FoldsInTurn p opening (beyond p start (lists_of p left)) (lists_between p (Some start) (At t) before) (lists_between p (Some t) Closed whole)

-- LAW OF MEETING: the defect of a source that a round meets is the first of all its lines
abbrev pub LawOfMeeting : Type 0
LawOfMeeting =
    (timing : Timing) (kinds : List Kind) (s : Source) (rows : ℕ) (above : Option ℕ) (whole before now : List Next) (row : ℕ) (why : Why)
    → Reads timing kinds s rows above whole before now (Meets row why) → defect_in timing kinds s whole ≡ Some (row, why)
