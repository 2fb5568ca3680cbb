-- What the planning of a job gives.
use Rattle.std.specs.Prelude.{ℕ, List}
use Rattle.flu_model.specs.declared.jobs.Program.{Program}
use Rattle.flu_model.specs.Modes.{IsAccepted}
use Rattle.flu_command.specs.Wants.{IsGreedyText}

-- the program is accepted, and this is the text of its greedy plan at a depth
pub record IsPlanned (p : Program) (depth : ℕ) (text : List ℕ) : Type 0 where
  pub accepted : IsAccepted p
  pub plan : IsGreedyText p depth text
