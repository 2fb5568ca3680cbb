-- STEPS AND RUNS: what a step does to the number of steps that are left, how long a list of steps can be, and what any list of steps leads to.
use Rattle.std.specs.Prelude.{◌≡◌, ◌⊎◌, ℕ, ◌<◌, ◌≤◌, true, false, Some, List, [], ◌∷◌, length, slice_get}
use Rattle.std.specs.List.Sorted.{IsPermutation}
use Rattle.flu_model.specs.Folding.{final_outputs}
use Rattle.flu_model.specs.Listed.{listed}
use Rattle.flu_cells.specs.Holding.{held}
use Rattle.flu_fork.specs.declared.content.Content.{Content}
use Rattle.flu_fork.specs.declared.lots.Lot.{Lot}
use Rattle.flu_fork.specs.Lots.{job, LotFits}
use Rattle.flu_worker.specs.Keeping.{LotsFit}
use Rattle.flu_worker.specs.Notes.{WorkerNote}
use Rattle.flu_net.specs.declared.edges.Edge.TheVariants.{Lent, Given}
use Rattle.flu_net.specs.declared.steps.Step.{Step}
use Rattle.flu_net.specs.Blocking.{AllKeep}
use Rattle.flu_net.specs.Effects.{Makes}
use Rattle.flu_net.specs.Enabled.{is_enabled}
use Rattle.flu_net.specs.Final.{IsFinal}
use Rattle.flu_net.specs.Measure.{most_steps, steps_left}
use Rattle.flu_net.specs.Notes.{NetNote}
use Rattle.flu_net.specs.Rule.{Rule, Tells}
use Rattle.flu_net.specs.Starting.{IsStart}

-- a step that is enabled is made
pub record IsMade (s : Step) (old new : NetNote) : Type 0 where
  pub enabled : is_enabled old s ≡ true
  pub made : Makes s old new

-- each step lowers the number of steps that are left
abbrev pub StepsLower : Type 0
StepsLower = (s : Step) (old new : NetNote) → Rule old → IsMade s old new → steps_left new < steps_left old

-- at the start it is bounded
abbrev pub StartsAreBounded : Type 0
StartsAreBounded = (k : Content) (n : NetNote) → IsStart k n → steps_left n ≤ most_steps k

-- one step after the other, with a net after each
abbrev pub Runs : List Step → NetNote → NetNote → Type 0
Runs [] old new = new ≡ old
Runs (s ∷ steps) old new = (next : NetNote) × IsMade s old next × Runs steps next new

-- so from the start on a net makes no more steps than the bound, in whatever order
abbrev pub RunsAreBounded : Type 0
RunsAreBounded = (k : Content) (old new : NetNote) (steps : List Step) → IsStart k old → Runs steps old new → length steps ≤ most_steps k

-- ---- what any list of steps leads to

-- the rule of the net holds, and each worker keeps its own
pub record IsReached (k : Content) (n : NetNote) : Type 0 where
  pub case : n.case ≡ k
  pub gone : n.gone ≡ false
  pub rule : Rule n
  pub keep : AllKeep n.workers

-- RUNS KEEP THE RULE: it holds after every list of steps from the start
abbrev pub RunsKeepTheRule : Type 0
RunsKeepTheRule = (k : Content) (old new : NetNote) (steps : List Step) → IsStart k old → Runs steps old new → IsReached k new

-- each partial state, on an edge or in a hand, is the one that its counts describe; the outputs emitted are those that the fold has for the events that their
-- owners counted, each event's once; and if the net is final, they are the fold's in some order
pub record TellsTheFold (k : Content) (n : NetNote) : Type 0 where
  pub edges : (w : ℕ) (lot : Lot) → (slice_get n.edges w ≡ Some (Lent lot)) ⊎ (slice_get n.edges w ≡ Some (Given lot)) → LotFits k w lot
  pub hands : (w : ℕ) (v : WorkerNote) → slice_get n.workers w ≡ Some v → LotsFit v v.holding
  pub outs : Tells k n.workers n.outs
  pub whole : IsFinal n → IsPermutation (final_outputs (job k) (held k.opening) (listed k.streams)) n.outs

-- RUNS TELL THE FOLD: this holds after every list of steps from the start, in whatever order
abbrev pub RunsTellTheFold : Type 0
RunsTellTheFold = (k : Content) (old new : NetNote) (steps : List Step) → IsStart k old → Runs steps old new → TellsTheFold k new
