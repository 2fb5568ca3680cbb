-- How a run stands whose next round has begun and was not run yet, so that the round after it may be read meanwhile.
use Rattle.std.specs.Prelude.{◌≡◌, ◌≢◌, ◌<◌, ◌-◌, ◌^◌, ℕ, Bool, List, length, Option, None, Result, Ok, Err, IfOk, IfErr, OnOk, IsErrOf}
use Rattle.flu_outside.specs.Outside.{Contents as Files, SameCounts}
use Rattle.flu_adaptive.specs.Notes.{AdaptiveNote}
use Rattle.flu_cells.specs.Holding.{held}
use Rattle.flu_model.specs.declared.jobs.Program.{Program}
use Rattle.flu_model.specs.Itags.{count_of_itags}
use Rattle.flu_model.specs.Listed.{listed}
use Rattle.flu_model.specs.Sorts.{IsStateOf}
use Rattle.flu_rows.specs.declared.rows.Next.{Next}
use Rattle.flu_streams.specs.declared.border.Border.{Border}
use Rattle.flu_streams.specs.declared.border.Border.TheVariants.{At, Closed}
use Rattle.flu_streams.specs.declared.held.Stage.TheVariants.{Filled}
use Rattle.flu_streams.specs.Holding.{AreHeldBehind, AreClosed, ClosedAreReadOut, Fills, HidesNoRoundFault, IsNewBorder, KeepsJob}
use Rattle.flu_rounds.specs.declared.faults.RoundsFault.{RoundsFault}
use Rattle.flu_rounds.specs.declared.faults.RoundsFault.TheVariants.{ReadFault, WriteFault}
use Rattle.flu_rounds.specs.declared.rounds.Begun.{Begun}
use Rattle.flu_rounds.specs.Halves.{Begins}
use Rattle.flu_rounds.specs.Standing.{Standing, IsSourceFault, StandsBehind}
use Rattle.flu_top.specs.declared.running.RunFault.{RunFault}
use Rattle.flu_top.specs.Ending.{Call, call}
use Rattle.flu_command.specs.Openings.{Opening}
use Rattle.flu_top.specs.Running.{EndsRounds, GoesOn, IsWithin, StaysWithin}

-- how many later borders there may be after a round's end
abbrev pub rounds_left : Border → ℕ
rounds_left (At t) = 2 ^ 63 - t
rounds_left Closed = 0

-- A ROUND HAS BEGUN in a run that does not save: the run had come to a standing, from which the sources were filled for this round; its
-- rows and the state that they are run from are at hand, and nothing was written since
pub record HasBegun (adapts : Bool) (p : Program) (e : AdaptiveNote) (o : Opening) (c : Call) (now : Standing) (begun : Begun) : Type 0 where
  pub old : Standing
  pub left : Option Files
  pub counts : List ℕ → ℕ
  pub puts : List ℕ → ℕ
  pub goes : GoesOn adapts p e o None (call c.left left c.counts counts c.puts puts c.taken c.taken_after c.count c.count_after) old
  pub begins : Begins old now.held left c.left_after begun.border begun.opening (listed begun.rows)
  pub border : IsNewBorder old.held.border begun.border
  pub stands : StandsBehind old.held now.held begun.border
  pub read_out : ClosedAreReadOut old.held left → ClosedAreReadOut now.held c.left_after
  pub closed : begun.border ≡ Closed → AreClosed now.held
  pub within : IsWithin old (call left c.left_after counts c.counts_after puts c.puts_after c.taken_after c.taken_after c.count_after c.count_after)
  pub itags : length (listed begun.rows) ≡ count_of_itags p
  pub sorts : IsStateOf p.families (held begun.opening)

-- THE NEXT ROUND WAS READ, while this one ran or not
pub record IsFilled (old new : Standing) (c : Call) (result : Result Border RoundsFault) : Type 0 where
  pub filled : IfOk result (λ end. (before : ℕ → List Next) → AreHeldBehind old.held before
      → Fills old.held new.held c.left c.left_after end before)
  pub border : IfOk result (IsNewBorder old.held.border)
  pub stage : IfOk result (λ end. new.held.stage ≡ Filled end)
  pub same : KeepsJob old.held new.held
  pub state : new.state ≡ old.state
  pub read_out : OnOk result (ClosedAreReadOut old.held c.left → ClosedAreReadOut new.held c.left_after)
  pub closed : result ≡ Ok Closed → AreClosed new.held
  pub fault : IfErr result (λ f. IsSourceFault old.held c.left c.left_after f)
  pub unwritten : result ≢ Err WriteFault
  pub within : IsWithin old c
  pub quiet : result ≢ Err ReadFault → SameCounts c.counts c.counts_after
  pub hides : IsErrOf result ReadFault → (before : ℕ → List Next) → AreHeldBehind old.held before
      → HidesNoRoundFault old.held c.left c.left_after c.counts c.counts_after before

-- what running a round that has begun comes to, if it is not the last one: the next round has begun, with a later border, or an end
abbrev pub StepsAhead : Bool → Program → AdaptiveNote → Opening → Call → Standing → Border → Result Begun RunFault → Type 0
StepsAhead adapts p e o c now border (Ok next) = HasBegun adapts p e o c now next × (rounds_left next.border < rounds_left border)
StepsAhead adapts p e o c now border (Err fault) = EndsRounds adapts p o None c (Err fault) × StaysWithin p None c

-- what beginning the first round comes to: it has begun, or an end
abbrev pub BeginsAhead : Bool → Program → AdaptiveNote → Opening → Call → Standing → Result Begun RunFault → Type 0
BeginsAhead adapts p e o c now (Ok next) = HasBegun adapts p e o c now next
BeginsAhead adapts p e o c now (Err fault) = EndsRounds adapts p o None c (Err fault) × StaysWithin p None c
