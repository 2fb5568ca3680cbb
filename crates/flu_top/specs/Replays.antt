-- The replay of a trace after the sources of a job, and what refuses it.
use Rattle.std.specs.Prelude.{◌≡◌, ℕ, List, [], Contains, Option, Some, None, ⊤, ◌⊎◌}
use Rattle.flu_outside.specs.Outside.{Contents, WhereTold, Rose}
use Rattle.flu_outside.specs.Taking.{bytes_left}
use Rattle.flu_model.specs.declared.events.Item.{Item}
use Rattle.flu_model.specs.declared.jobs.Program.{Program}
use Rattle.flu_model.specs.declared.plans.Node.{Node}
use Rattle.flu_streams.specs.Faults.{HidesNothing}
use Rattle.flu_streams.specs.Files.{files_of}
use Rattle.flu_streams.specs.Good.{first_fault}
use Rattle.flu_trace.specs.declared.faults.ReplayFault.{ReplayFault}
use Rattle.flu_trace.specs.Replaying.{Ending, Complete, ending_of}
use Rattle.flu_lines.specs.declared.refusals.Refusal.{Refusal}
use Rattle.flu_lines.specs.declared.refusals.Refusal.TheVariants as refusals
use Rattle.flu_top.specs.Folding.{IsFaulty, IsReported}
use Rattle.flu_lines.specs.Jobs.{program_read}
use Rattle.flu_command.specs.Replaying.{EndsOnNet, EndsBehind}

-- a fault states an ending, of which this holds
abbrev pub Tells : ReplayFault → (Ending → Type 0) → Type 0
Tells fault Holds = (ending : Ending) × (ending_of fault ≡ Some ending) × Holds ending

-- ---- the trace alone
-- why a trace was not replayed on the net of a plan over some items
abbrev pub IsNetRefusal : Program → List Node → List (List Item) → List ℕ → Option Contents → Option Contents → (List ℕ → ℕ) → (List ℕ → ℕ) → Refusal → Type 0
IsNetRefusal p nodes lists trace old new before now (refusals.BadWords bad) = ⊥
IsNetRefusal p nodes lists trace old new before now (refusals.JobFault fault text) = ⊥
IsNetRefusal p nodes lists trace old new before now (refusals.Conflict fault) = ⊥
IsNetRefusal p nodes lists trace old new before now (refusals.PlanDefect defect) = ⊥
IsNetRefusal p nodes lists trace old new before now (refusals.SourceFault job fault) = ⊥
IsNetRefusal p nodes lists trace old new before now refusals.ReadFault = Rose (before trace) (now trace)
IsNetRefusal p nodes lists trace old new before now refusals.WriteFault = ⊥
IsNetRefusal p nodes lists trace old new before now refusals.NoMemory = ⊤
IsNetRefusal p nodes lists trace old new before now (refusals.SaveDefect defect) = ⊥
IsNetRefusal p nodes lists trace old new before now refusals.PutFault = ⊥
IsNetRefusal p nodes lists trace old new before now (refusals.TraceFault fault) =
    Tells fault (λ ending. WhereTold old new (λ left _. EndsOnNet p nodes lists (bytes_left left trace) ending))

-- ---- the trace after the sources
-- the sources of a job are good, this is the report of the fold of their events, and the trace after them is complete and was read
-- to its end
pub record IsReplayDone (p : Program) (nodes : List Node) (trace report : List ℕ) (old new : Contents) : Type 0 where
  pub reported : IsReported p report old new
  pub complete : EndsBehind p nodes trace old Complete
  pub end : new trace ≡ Some []

-- a name is the name of a source's file; or it is the trace's, and the sources are good
abbrev pub IsReadIn : Program → List ℕ → Contents → List ℕ → Type 0
IsReadIn p trace left name = Contains (files_of p.sources) name ⊎ ((trace ≡ name) × (first_fault p left ≡ None))

-- what was read to its end before stays so
abbrev pub StaysEnded : Contents → Contents → Type 0
StaysEnded old new = (name : List ℕ) → old name ≡ Some [] → new name ≡ Some []

-- the count of a source's file rose, and nothing that was taken of the sources is a defect; or the count of the trace rose, and the
-- sources are good
abbrev pub IsReadRise : Program → List ℕ → Option Contents → Option Contents → (List ℕ → ℕ) → (List ℕ → ℕ) → Type 0
IsReadRise p trace old new before now =
    HidesNothing p old new before now ⊎ (WhereTold old new (λ left _. first_fault p left ≡ None) × Rose (before trace) (now trace))

-- why the trace after the sources was not replayed
abbrev pub IsReplayRefusal : Program → List Node → List ℕ → Option Contents → Option Contents → (List ℕ → ℕ) → (List ℕ → ℕ) → Refusal → Type 0
IsReplayRefusal p nodes trace old new before now (refusals.BadWords bad) = ⊥
IsReplayRefusal p nodes trace old new before now (refusals.JobFault fault text) = ⊥
IsReplayRefusal p nodes trace old new before now (refusals.Conflict fault) = ⊥
IsReplayRefusal p nodes trace old new before now (refusals.PlanDefect defect) = ⊥
IsReplayRefusal p nodes trace old new before now (refusals.SourceFault job fault) = IsFaulty p old new (program_read job) fault
IsReplayRefusal p nodes trace old new before now refusals.ReadFault = IsReadRise p trace old new before now
IsReplayRefusal p nodes trace old new before now refusals.WriteFault = ⊥
IsReplayRefusal p nodes trace old new before now refusals.NoMemory = ⊤
IsReplayRefusal p nodes trace old new before now (refusals.SaveDefect defect) = ⊥
IsReplayRefusal p nodes trace old new before now refusals.PutFault = ⊥
IsReplayRefusal p nodes trace old new before now (refusals.TraceFault fault) =
    Tells fault (λ ending. WhereTold old new (λ left _. (first_fault p left ≡ None) × EndsBehind p nodes trace left ending))
