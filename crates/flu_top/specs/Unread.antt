-- What a call leaves unread if its plan refuses it.
use Rattle.std.specs.Prelude.{◌≡◌, ◌≢◌, ℕ, List, Some, Ok}
use Rattle.flu_outside.specs.Outside.{Contents}
use Rattle.flu_model.specs.declared.jobs.Program.{Program}
use Rattle.flu_words.specs.Words.{Command, command_in}
use Rattle.flu_command.specs.Behind.{Named, HasJob}
use Rattle.flu_command.specs.Done.{HasValidPlan, MayBePut}
use Rattle.flu_top.specs.Outcome.{ReadOnly}
use Rattle.flu_command.specs.Wants.{job_wanted, plan_named}

-- if the plan that a command asks for is not a plan or is not valid for its job, bytes are taken only of the job's text and of the plan's:
-- of no source, checkpoint or trace
abbrev pub BadPlansReadNoMore : Type 0
BadPlansReadNoMore =
    (words : List (List ℕ)) (left now : Contents) (status : ℕ) → ReadOnly words (Some left) (Some now) status
    → (command : Command) (p : Program) (plan : List ℕ) → command_in words ≡ Ok command → plan_named command ≡ Some plan
    → HasJob (job_wanted command) left p → ¬ HasValidPlan (job_wanted command) plan left p
    → (name : List ℕ) → job_wanted command ≢ Named name → plan ≢ name → ¬ MayBePut words status name → now name ≡ left name
