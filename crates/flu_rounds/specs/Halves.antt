-- A round in two halves, between which its rows are run.
use Rattle.std.specs.Prelude.{◌≡◌, ℕ, List, Option}
use Rattle.std.specs.List.Sorted.{IsPermutation}
use Rattle.flu_model.specs.declared.events.Item.{Item}
use Rattle.flu_model.specs.declared.events.Out.{Out}
use Rattle.flu_model.specs.declared.jobs.Program.{Program}
use Rattle.flu_cells.specs.declared.state.State.{State}
use Rattle.flu_cells.specs.Holding.{held}
use Rattle.flu_model.specs.Folding.{final_state, final_outputs}
use Rattle.flu_model.specs.Reports.{report}
use Rattle.flu_outside.specs.Outside.{Contents as Files, WhereTold}
use Rattle.flu_outside.specs.Writing.{AppendsAll, AppendsPart}
use Rattle.flu_rows.specs.declared.rows.Next.{Next}
use Rattle.flu_streams.specs.declared.border.Border.{Border}
use Rattle.flu_streams.specs.Holding.{Holding, AreHeldBehind, Fills, KeepsJob, Cuts}
use Rattle.flu_streams.specs.Rounds.{lists_between}
use Rattle.flu_rounds.specs.Standing.{Standing, Runs, IsRoundOf, StandsBehind, round_lists, round_report}

-- THE FIRST HALF: the sources were filled for the round, and the state before it and its rows were handed out
pub record Begins (old : Standing) (new : Holding) (left left' : Option Files) (end : Border) (opening : State) (rows : List (List Item)) : Type 0 where
  pub state : held opening ≡ held old.state
  pub filled : (before : ℕ → List Next) → AreHeldBehind old.held before
      → (fills : Fills old.held new left left' end before) × (rows ≡ round_lists old end fills.now)

-- LAW OF PARTS: the first half in two parts. What is held was filled for the round, from a standing, and its rows were cut out; and the
-- opening is the state of that standing, whether it was known when the sources were filled or not.
abbrev pub LawOfParts : Type 0
LawOfParts =
    (p : Program) (old : Standing) (mid new : Holding) (left left' : Option Files) (end : Border) (opening : State) (rows : List (List Item))
    → old.held.program ≡ p → held opening ≡ held old.state → KeepsJob old.held mid
    → ((before : ℕ → List Next) → AreHeldBehind old.held before → Fills old.held mid left left' end before) → Cuts mid new end
    → ((lines : ℕ → List Next) → AreHeldBehind mid lines → rows ≡ lists_between p mid.border end lines)
    → Begins old new left left' end opening rows × StandsBehind old.held new end

-- BETWEEN THEM: the state and the outputs of the fold of the rows, the outputs in some order
pub record AreRun (p : Program) (opening : State) (rows : List (List Item)) (state : State) (outs : List Out) : Type 0 where
  pub state' : held state ≡ final_state p (held opening) rows
  pub outs' : IsPermutation (final_outputs p (held opening) rows) outs

-- THE SECOND HALF: the report of the outputs, in whatever order they are, was appended to what was there; or a prefix of it
abbrev pub AppendsReport : Program → List Out → Option (List ℕ) → Option (List ℕ) → Type 0
AppendsReport p outs had has = (others : List Out) → IsPermutation outs others → WhereTold had has (AppendsAll (report p others))

abbrev pub AppendsPartOfReport : Program → List Out → Option (List ℕ) → Option (List ℕ) → Type 0
AppendsPartOfReport p outs had has = (others : List Out) → IsPermutation outs others → WhereTold had has (AppendsPart (report p others))

-- LAW OF HALVES: both make a round
abbrev pub LawOfHalves : Type 0
LawOfHalves =
    (p : Program) (old new : Standing) (left left' : Option Files) (end : Border) (opening state : State) (rows : List (List Item)) (outs : List Out)
    (had has : Option (List ℕ))
    → p ≡ old.held.program → Begins old new.held left left' end opening rows → AreRun p opening rows state outs → held new.state ≡ held state
    → AppendsReport p outs had has
    → (before : ℕ → List Next) → AreHeldBehind old.held before
    → (runs : Runs old new left left' end before) × WhereTold had has (AppendsAll (round_report old end runs.fills.now))

-- LAW OF A HALF: if the second one fails, a prefix of the round's report was written
abbrev pub LawOfHalf : Type 0
LawOfHalf =
    (p : Program) (old : Standing) (new : Holding) (left left' : Option Files) (end : Border) (opening state : State) (rows : List (List Item))
    (outs : List Out) (had has : Option (List ℕ))
    → p ≡ old.held.program → Begins old new left left' end opening rows → AreRun p opening rows state outs
    → AppendsPartOfReport p outs had has
    → (before : ℕ → List Next) → AreHeldBehind old.held before
    → (b : Border) × (now : ℕ → List Next) × IsRoundOf old left left' b before now × WhereTold had has (AppendsPart (round_report old b now))
