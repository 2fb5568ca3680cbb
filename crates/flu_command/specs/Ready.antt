-- What was read of a command before its sources: its job's text, and its plan's, if it reads one.
use Rattle.std.specs.Prelude.{◌≡◌, ℕ, List, [], Contains, Some}
use Rattle.flu_outside.specs.Outside.{Contents}
use Rattle.flu_model.specs.declared.jobs.Program.{Program}
use Rattle.flu_model.specs.declared.plans.Node.{Node}
use Rattle.flu_streams.specs.Files.{LeavesOthers}
use Rattle.flu_words.specs.Words.{Command}
use Rattle.flu_command.specs.Behind.{Named, HasJob, HasPlan, emptied_each}
use Rattle.flu_command.specs.Wants.{job_wanted, texts_named}
use Rattle.flu_command.specs.Done.{HasPlanAsked}

-- the text under the plan's name, which is read after the job's, is the plan of these nodes
abbrev pub HasNodes : List ℕ → List ℕ → Program → List Node → Contents → Contents → Type 0
HasNodes job plan p nodes old new = HasPlan (Named job) plan old p nodes

-- some texts, and nothing else, were read to their ends
pub record AreTextsRead (texts : List (List ℕ)) (old new : Contents) : Type 0 where
  pub behind : emptied_each texts old ≡ new
  pub ends : (name : List ℕ) → Contains texts name → new name ≡ Some []
  pub others : LeavesOthers texts old new

-- the program is the command's job, the bytes under the plan's name, if the command reads a plan, are a valid plan
-- for it, and these texts alone were read
pub record IsReady (command : Command) (p : Program) (old new : Contents) : Type 0 where
  pub has : HasJob (job_wanted command) old p
  pub plan : HasPlanAsked command old p
  pub texts : AreTextsRead (texts_named command) old new
