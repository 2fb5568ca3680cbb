-- How far a run in rounds has come, and what it has written by then (`docs/MODEL.md`, "Rounds").
use Rattle.std.specs.Prelude.{◌≡◌, ℕ, ◌<◌, ◌≤◌, Option, Some, None, List, [], ◌∷◌, ◌++◌, length, Contains}
use Rattle.flu_cells.specs.Holding.{held}
use Rattle.flu_model.specs.declared.events.Item.{Item}
use Rattle.flu_model.specs.declared.jobs.Program.{Program}
use Rattle.flu_model.specs.Contents.{Contents, nothing_held}
use Rattle.flu_model.specs.Folding.{final_state, final_outputs}
use Rattle.flu_model.specs.Reports.{report}
use Rattle.flu_outside.specs.Outside.{Contents as Files, WhereTold}
use Rattle.flu_rows.specs.declared.rows.Next.{Next}
use Rattle.flu_streams.specs.declared.border.Border.{Border}
use Rattle.flu_streams.specs.declared.border.Border.TheVariants.{At, Closed}
use Rattle.flu_streams.specs.declared.faults.SourceFault.{SourceFault}
use Rattle.flu_streams.specs.Files.{files_of, AreReadOut}
use Rattle.flu_streams.specs.Good.{lists_of}
use Rattle.flu_streams.specs.Rounds.{ComesFrom, IsRoundFault, lists_between, reports_in_turn, state_in_turn}
use Rattle.flu_streams.specs.Holding.{AreHeldBehind, AreInAll, ClosedAreReadOut, AreClosed}
use Rattle.flu_rounds.specs.declared.faults.RoundsFault.TheVariants.{Source as SourceDefect}
pub use Rattle.flu_rounds.specs.Written.{AreSound, RanFrom, RanTo, WouldWriteFrom, WouldWrite, lines_in, lists_above, text_from, text_up_from, text_until}
pub use Rattle.flu_rounds.specs.Written.{text_up_to}
use Rattle.flu_rounds.specs.Standing.{Standing, Runs, IsRoundOf, IsSourceFault, StandsBehind, IsFirstFrom, round_report}

-- ---- a run over files
-- A RUN HAS COME TO A STANDING, above a border, if there is one, and from a state: what is held and the state are those after the
-- rounds since its start, each of which was a round of the lines that the files had then; and this was written
pub record CameFrom (p : Program) (rows : ℕ) (border : Option ℕ) (opening : Contents) (start left : Option Files) (now : Standing)
    (written : List ℕ) : Type 0 where
  pub program : now.held.program ≡ p
  pub number : now.held.rows ≡ rows
  pub done : List (List (List Item))
  pub before : ℕ → List Next
  pub behind : AreHeldBehind now.held before
  pub state : held now.state ≡ state_in_turn p opening done
  pub wrote : written ≡ reports_in_turn p opening done
  pub ended : ClosedAreReadOut now.held left
  pub told : WhereTold start left (λ was is. ComesFrom p rows (lines_in p was) border done now.held.border before
      × AreInAll now.held before is (lines_in p was))

-- from the first row on, and from the empty state
abbrev pub CameTo : Program → ℕ → Option Files → Option Files → Standing → List ℕ → Type 0
CameTo p rows start left now written = CameFrom p rows None nothing_held start left now written

-- ALL OF THE RUN: no source has a defect, and the state and what was written are those of the fold of all rows above the border
pub record HasRunFrom (p : Program) (border : Option ℕ) (opening : Contents) (was : Files) (now : Standing) (written : List ℕ) : Type 0 where
  pub sound : AreSound p (lines_in p was)
  pub state : held now.state ≡ final_state p opening (lists_above p border (lists_of p was))
  pub text : written ≡ report p (final_outputs p opening (lists_above p border (lists_of p was)))

abbrev pub HasRun : Program → Files → Standing → List ℕ → Type 0
HasRun p was now written = HasRunFrom p None nothing_held was now written

-- ---- laws
-- LAW OF THE BEGINNING: before the first round nothing has been run, and nothing is written
abbrev pub LawOfBeginningFrom : Option ℕ → Contents → Type 0
LawOfBeginningFrom border opening =
    (p : Program) (rows : ℕ) (left : Option Files) (now : Standing)
    → IsFirstFrom p rows border opening now → (came : CameFrom p rows border opening left left now []) × (came.done ≡ [])

-- LAW OF GOING ON: a round with a border comes to the next standing, and is run after those before it
abbrev pub LawOfGoingOnFrom : Option ℕ → Contents → Type 0
LawOfGoingOnFrom border opening =
    (p : Program) (rows : ℕ) (start left left' : Option Files) (old new : Standing) (written : List ℕ) (t : ℕ)
    → (came : CameFrom p rows border opening start left old written)
    → (runs : Runs old new left left' (At t) came.before)
    → StandsBehind old.held new.held (At t)
    → (ClosedAreReadOut old.held left → ClosedAreReadOut new.held left')
    → (on : CameFrom p rows border opening start left' new (written ++ round_report old (At t) runs.fills.now))
    × (on.done ≡ came.done ++ lists_between p old.held.border (At t) runs.fills.now ∷ [])

-- LAW OF THE TEXT: what was written is the report of the fold of all rows up to the border, of those above the run's start
abbrev pub LawOfTextFrom : Option ℕ → Contents → Type 0
LawOfTextFrom border opening =
    (p : Program) (rows : ℕ) (start left : Option Files) (now : Standing) (written : List ℕ) → 1 ≤ rows
    → CameFrom p rows border opening start left now written
    → WhereTold start left (λ was is. RanFrom p rows border opening (lines_in p was) now.held.border written)

-- LAW OF THE NEXT TEXT: with the report of one more round, it is the report of all rows up to the round's end
abbrev pub LawOfNextTextFrom : Option ℕ → Contents → Type 0
LawOfNextTextFrom border opening =
    (p : Program) (rows : ℕ) (start left left' : Option Files) (old : Standing) (written : List ℕ) (end : Border) (now : ℕ → List Next)
    → 1 ≤ rows → (came : CameFrom p rows border opening start left old written)
    → IsRoundOf old left left' end came.before now
    → WhereTold start left' (λ was is. (ran : RanFrom p rows border opening (lines_in p was) old.held.border written)
    × WouldWriteFrom p rows border opening (lines_in p was) old.held.border ran.before now end (written ++ round_report old end now))

-- a state is the state of the fold from this one up to this border, if there is one, of the rows above the run's start
abbrev pub IsStateUpTo : Program → Option ℕ → Contents → Option ℕ → (ℕ → List Next) → Contents → Type 0
IsStateUpTo p border opening above before s = (t : ℕ) → above ≡ Some t → s ≡ final_state p opening (lists_between p border (At t) before)

-- LAW OF THE TEXT AND THE STATE: by the rounds that were run the text is as in the law of the text, and the state is the state of the same fold
abbrev pub LawOfTextAndState : Option ℕ → Contents → Type 0
LawOfTextAndState border opening =
    (p : Program) (rows : ℕ) (start left : Option Files) (now : Standing) (written : List ℕ) → 1 ≤ rows
    → (came : CameFrom p rows border opening start left now written)
    → WhereTold start left (λ was is. (ran : RanFrom p rows border opening (lines_in p was) now.held.border written) × (ran.done ≡ came.done)
    × IsStateUpTo p border opening now.held.border ran.before (held now.state))

-- LAW OF THE NEXT TEXT AND STATE: the same before one more round, and the text with its report
abbrev pub LawOfNextTextAndState : Option ℕ → Contents → Type 0
LawOfNextTextAndState border opening =
    (p : Program) (rows : ℕ) (start left left' : Option Files) (old : Standing) (written : List ℕ) (end : Border) (now : ℕ → List Next)
    → 1 ≤ rows → (came : CameFrom p rows border opening start left old written)
    → IsRoundOf old left left' end came.before now
    → WhereTold start left' (λ was is. (ran : RanFrom p rows border opening (lines_in p was) old.held.border written) × (ran.done ≡ came.done)
    × IsStateUpTo p border opening old.held.border ran.before (held old.state)
    × WouldWriteFrom p rows border opening (lines_in p was) old.held.border ran.before now end (written ++ round_report old end now))

-- LAW OF THE NEXT STATE: after a round with a border the state is the state of the fold up to it
abbrev pub LawOfNextState : Option ℕ → Contents → Type 0
LawOfNextState border opening =
    (p : Program) (rows : ℕ) (start left left' : Option Files) (old new : Standing) (written : List ℕ) (t : ℕ) → 1 ≤ rows
    → (came : CameFrom p rows border opening start left old written)
    → (runs : Runs old new left left' (At t) came.before)
    → WhereTold start left' (λ was is. held new.state ≡ final_state p opening (lists_between p border (At t) runs.fills.now))

-- LAW OF THE LAST ROUND: after it all rows were run, and all files were read to their ends
abbrev pub LawOfLastFrom : Option ℕ → Contents → Type 0
LawOfLastFrom border opening =
    (p : Program) (rows : ℕ) (start left left' : Option Files) (old new : Standing) (written : List ℕ) → 1 ≤ rows
    → (came : CameFrom p rows border opening start left old written)
    → (runs : Runs old new left left' Closed came.before) → StandsBehind old.held new.held Closed
    → (ClosedAreReadOut old.held left → ClosedAreReadOut new.held left') → AreClosed new.held
    → AreReadOut (files_of p.sources) left' × WhereTold start left'
    (λ was is. HasRunFrom p border opening was new (written ++ round_report old Closed runs.fills.now))

-- LAW OF A DEFECT: it is met by the run of the lines, after the rounds so far
abbrev pub LawOfDefectFrom : Option ℕ → Contents → Type 0
LawOfDefectFrom border opening =
    (p : Program) (rows : ℕ) (start left left' : Option Files) (old : Standing) (written : List ℕ) (f : SourceFault) → 1 ≤ rows
    → (came : CameFrom p rows border opening start left old written)
    → IsSourceFault old.held left left' (SourceDefect f)
    → (f.source < length p.sources) × WhereTold start left' (λ was is. (ran : RanFrom p rows border opening (lines_in p was) old.held.border written)
    × IsRoundFault p rows old.held.border (lines_in p was) ran.before f)

-- LAW OF A DEFECT AND THE STATE: by the rounds that were run, and with the state after them
abbrev pub LawOfDefectAndState : Option ℕ → Contents → Type 0
LawOfDefectAndState border opening =
    (p : Program) (rows : ℕ) (start left left' : Option Files) (old : Standing) (written : List ℕ) (f : SourceFault) → 1 ≤ rows
    → (came : CameFrom p rows border opening start left old written)
    → IsSourceFault old.held left left' (SourceDefect f)
    → WhereTold start left' (λ was is. (ran : RanFrom p rows border opening (lines_in p was) old.held.border written) × (ran.done ≡ came.done)
    × IsStateUpTo p border opening old.held.border ran.before (held old.state)
    × IsRoundFault p rows old.held.border (lines_in p was) ran.before f)

-- ---- names that no source has
-- LAW OF OTHER NAMES: a run is still where it has come to, by the same rounds, if names that are no source's file change between two
-- rounds
abbrev pub LawOfOtherNames : Option ℕ → Contents → Type 0
LawOfOtherNames border opening =
    (p : Program) (rows : ℕ) (start left left' : Option Files) (now : Standing) (written : List ℕ)
    → (came : CameFrom p rows border opening start left now written)
    → WhereTold left left' (λ was is. (name : List ℕ) → Contains (files_of p.sources) name → is name ≡ was name)
    → (same : CameFrom p rows border opening start left' now written) × (same.done ≡ came.done)

-- ---- prefixes of the report
-- this is a prefix of the report of the fold of all rows above a border, if there is one, and from a state
abbrev pub IsFrontOfReport : Program → Option ℕ → Contents → Files → List ℕ → Type 0
IsFrontOfReport p border opening left text = (rest : List ℕ) × (report p (final_outputs p opening (lists_above p border (lists_of p left))) ≡ text ++ rest)

-- LAW OF FRONTS: if no source has a defect, what a run has written after a border is a prefix of its report
abbrev pub LawOfReportFronts : Option ℕ → Contents → Type 0
LawOfReportFronts border opening =
    (p : Program) (rows : ℕ) (left : Files) (above : Option ℕ) (text : List ℕ) → 1 ≤ rows → AreSound p (lines_in p left)
    → RanFrom p rows border opening (lines_in p left) above text → IsFrontOfReport p border opening left text

-- LAW OF NEXT FRONTS: the same with the report of one more round
abbrev pub LawOfNextReportFronts : Option ℕ → Contents → Type 0
LawOfNextReportFronts border opening =
    (p : Program) (rows : ℕ) (left : Files) (above : Option ℕ) (text more : List ℕ) (now : ℕ → List Next) (end : Border) → 1 ≤ rows
    → AreSound p (lines_in p left)
    → (ran : RanFrom p rows border opening (lines_in p left) above text)
    → WouldWriteFrom p rows border opening (lines_in p left) above ran.before now end more → IsFrontOfReport p border opening left more

-- ---- the laws of a run from the first row on, and from the empty state
abbrev pub LawOfBeginning : Type 0
LawOfBeginning = LawOfBeginningFrom None nothing_held

abbrev pub LawOfGoingOn : Type 0
LawOfGoingOn = LawOfGoingOnFrom None nothing_held

abbrev pub LawOfText : Type 0
LawOfText = LawOfTextFrom None nothing_held

abbrev pub LawOfNextText : Type 0
LawOfNextText = LawOfNextTextFrom None nothing_held

abbrev pub LawOfLast : Type 0
LawOfLast = LawOfLastFrom None nothing_held

abbrev pub LawOfDefect : Type 0
LawOfDefect = LawOfDefectFrom None nothing_held
