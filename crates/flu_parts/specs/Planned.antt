-- What a part command reads before partials and sources: its job and its plan, as `valid JOB PLAN` reads them.
use Rattle.std.specs.Prelude.{◌≡◌, ◌≢◌, ℕ, Some, List, [], ⊤}
use Rattle.flu_outside.specs.Outside.{Contents}
use Rattle.flu_model.specs.declared.jobs.Program.{Program}
use Rattle.flu_model.specs.declared.plans.Node.{Node}
use Rattle.flu_model.specs.Modes.{IsAccepted}
use Rattle.flu_model.specs.Validity.{IsValid}
use Rattle.flu_apart.specs.Apart.{MayBeApart}
use Rattle.flu_combine.specs.Partials.{node_named}
use Rattle.flu_words.specs.Words.{Command, Valid}
use Rattle.flu_words.specs.Parts.{PartCommand, Partial, Combine}
use Rattle.flu_command.specs.Behind.{HasJob, HasPlan, emptied_each}
use Rattle.flu_command.specs.Wants.{job_wanted, texts_named}

-- the names of its job and of its plan
abbrev pub job_of_part : PartCommand → List ℕ
job_of_part (Partial job plan node) = job
job_of_part (Combine job plan partials) = job

abbrev pub plan_of_part : PartCommand → List ℕ
plan_of_part (Partial job plan node) = plan
plan_of_part (Combine job plan partials) = plan

-- if it combines, there is a partial
abbrev pub NamesSome : PartCommand → Type 0
NamesSome (Partial job plan node) = ⊤
NamesSome (Combine job plan partials) = partials ≢ []

-- the command that reads the same job and the same plan, and asks the same of them
abbrev pub texts_of : PartCommand → Command
texts_of command = Valid (job_of_part command) (plan_of_part command)

-- what the files have left once the job's text and the plan's were read
abbrev pub behind : PartCommand → Contents → Contents
behind command left = emptied_each (texts_named (texts_of command)) left

-- ITS JOB AND ITS PLAN: the job is accepted, and the plan, of these nodes, is valid for it
pub record IsPlanned (command : PartCommand) (left : Contents) (p : Program) (nodes : List Node) : Type 0 where
  pub has : HasJob (job_wanted (texts_of command)) left p
  pub accepted : IsAccepted p
  pub plan : HasPlan (job_wanted (texts_of command)) (plan_of_part command) left p nodes
  pub valid : IsValid p nodes

-- the node of that name, which may be apart
pub record IsNodeApart (p : Program) (nodes : List Node) (name : List ℕ) (w : ℕ) : Type 0 where
  pub named : node_named nodes name ≡ Some w
  pub may : MayBeApart p nodes w
