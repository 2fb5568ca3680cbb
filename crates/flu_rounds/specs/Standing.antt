-- How far a run in rounds has come, and what a round does (`docs/MODEL.md`, "Rounds").
use Rattle.std.specs.Prelude.{◌≡◌, ℕ, List, Option, None, ⊤}
use Rattle.flu_model.specs.declared.events.Item.{Item}
use Rattle.flu_model.specs.declared.jobs.Program.{Program}
use Rattle.flu_cells.specs.declared.state.State.{State}
use Rattle.flu_cells.specs.Holding.{held}
use Rattle.flu_model.specs.Contents.{Contents, nothing_held}
use Rattle.flu_model.specs.Folding.{final_state, final_outputs}
use Rattle.flu_model.specs.Reports.{report}
use Rattle.flu_outside.specs.Outside.{Contents as Files, WhereTold}
use Rattle.flu_rows.specs.declared.rows.Next.{Next}
use Rattle.flu_streams.specs.declared.border.Border.{Border}
use Rattle.flu_streams.specs.declared.faults.GatherFault.TheVariants.{Source as SourceFaulty}
use Rattle.flu_streams.specs.Holding.{Holding, unread, border_after, stage_after, AreInAll, Fills, IsRefillFault}
use Rattle.flu_streams.specs.Rounds.{IsRound, lists_between}
use Rattle.flu_rounds.specs.declared.faults.RoundsFault.{RoundsFault}
use Rattle.flu_rounds.specs.declared.faults.RoundsFault.TheVariants.{Source, ReadFault, WriteFault, NoMemory}

-- what is held of the sources, and the state after the rounds so far
pub record Standing : Type 0 where
  pub held : Holding
  pub state : State

-- before the first round of a run that starts above a border, if there is one, nothing is held of the sources, and the state is
-- the one that it starts from
pub record IsFirstFrom (p : Program) (rows : ℕ) (border : Option ℕ) (opening : Contents) (s : Standing) : Type 0 where
  pub held' : s.held ≡ unread p rows border
  pub state' : held s.state ≡ opening

-- a run from the first row on starts from the empty state
abbrev pub IsFirst : Program → ℕ → Standing → Type 0
IsFirst p rows s = IsFirstFrom p rows None nothing_held s

-- the lists of the rows that a round takes, if these lines were read of each source
abbrev pub round_lists : Standing → Border → (ℕ → List Next) → List (List Item)
round_lists old end now = lists_between old.held.program old.held.border end now

-- the report of the fold of these rows from the state before the round
abbrev pub round_report : Standing → Border → (ℕ → List Next) → List ℕ
round_report old end now = report old.held.program (final_outputs old.held.program (held old.state) (round_lists old end now))

-- A ROUND: the sources were filled for it, and the state is the state of the fold of its rows
pub record Runs (old new : Standing) (left left' : Option Files) (end : Border) (before : ℕ → List Next) : Type 0 where
  pub fills : Fills old.held new.held left left' end before
  pub state : held new.state ≡ final_state old.held.program (held old.state) (round_lists old end fills.now)

-- a round for which these lines were read, some of them before it
pub record IsRoundOf (old : Standing) (left left' : Option Files) (end : Border) (before now : ℕ → List Next) : Type 0 where
  pub round : WhereTold left left' (λ was is. (whole : ℕ → List Next) → AreInAll old.held before was whole
      → IsRound old.held.program old.held.rows old.held.border whole before now end)

-- what is held is of the same job, after this round
pub record StandsBehind (old new : Holding) (end : Border) : Type 0 where
  pub program : new.program ≡ old.program
  pub rows : new.rows ≡ old.rows
  pub border : new.border ≡ border_after end old.border
  pub stage : new.stage ≡ stage_after end

-- a source fault is the defect of the round
abbrev pub IsSourceFault : Holding → Option Files → Option Files → RoundsFault → Type 0
IsSourceFault old left left' (Source f) = IsRefillFault old left left' (SourceFaulty f)
IsSourceFault old left left' ReadFault = ⊤
IsSourceFault old left left' WriteFault = ⊤
IsSourceFault old left left' NoMemory = ⊤
