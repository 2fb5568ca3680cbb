-- Laws about every greedy plan.
use Rattle.std.specs.Prelude.{◌≡◌, ℕ, ◌≤◌, List, Ok, IsTrue}
use Rattle.std.specs.List.{list_all}
use Rattle.flu_model.specs.declared.jobs.Program.{Program}
use Rattle.flu_model.specs.declared.plans.Node.{Node}
use Rattle.flu_names.specs.Names.{is_name}
use Rattle.flu_model.specs.Owners.{nodes_fit}
use Rattle.flu_model.specs.Validity.{IsValid}
use Rattle.flu_plan.specs.Kept.{KeepsRules}
use Rattle.flu_plan.specs.Printing.{printed}
use Rattle.flu_plan.specs.Reading.{plan_in}
use Rattle.flu_planner.specs.Plans.{IsGreedyPlan}

-- it keeps the rules of plans
abbrev pub GreedyKeepsRules : Type 0
GreedyKeepsRules = (p : Program) (rates : List ℕ) (depth : ℕ) (nodes : List Node) → depth ≤ 6 → IsGreedyPlan p rates depth nodes → KeepsRules nodes

-- it is valid for the job
abbrev pub GreedyIsValid : Type 0
GreedyIsValid = (p : Program) (rates : List ℕ) (depth : ℕ) (nodes : List Node) → IsGreedyPlan p rates depth nodes → IsValid p nodes

-- its predicates name kinds and sources of the job, and its names are names of the language
abbrev pub GreedyHasText : Type 0
GreedyHasText = (p : Program) (rates : List ℕ) (depth : ℕ) (nodes : List Node) → depth ≤ 6 → IsGreedyPlan p rates depth nodes → IsTrue
    (nodes_fit p nodes) × IsTrue (list_all (λ (node : Node). is_name node.name) nodes)

-- its text is parsed as this plan again
abbrev pub GreedyIsReadAgain : Type 0
GreedyIsReadAgain = (p : Program) (rates : List ℕ) (depth : ℕ) (nodes : List Node) → depth ≤ 6 → IsGreedyPlan p rates depth nodes → plan_in p
    (printed p nodes) ≡ Ok nodes

-- a job has one greedy plan for some rates and a depth
abbrev pub GreedyIsUnique : Type 0
GreedyIsUnique = (p : Program) (rates : List ℕ) (depth : ℕ) (a b : List Node) → IsGreedyPlan p rates depth a → IsGreedyPlan p rates depth b → a ≡ b
