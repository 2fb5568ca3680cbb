-- What holds of the text of every plan, and of the plan of every text.
use Rattle.std.specs.Prelude.{◌≡◌, ℕ, List, Ok, IsTrue}
use Rattle.flu_model.specs.declared.jobs.Program.{Program}
use Rattle.flu_model.specs.declared.plans.Node.{Node}
use Rattle.flu_model.specs.Erasure.{IsSameJob}
use Rattle.flu_plan.specs.Kept.{KeepsRules}
use Rattle.flu_plan.specs.Printing.{printed, has_text}
use Rattle.flu_plan.specs.Reading.{plan_in}

-- the plan of a text keeps the rules of plans
abbrev pub PlansKeepRules : Type 0
PlansKeepRules = (p : Program) (bytes : List ℕ) (nodes : List Node) → plan_in p bytes ≡ Ok nodes → KeepsRules nodes

-- the text of a plan that keeps the rules, and has a text, is read as that plan
abbrev pub PrintedIsRead : Type 0
PrintedIsRead = (p : Program) (nodes : List Node) → KeepsRules nodes → IsTrue (has_text p nodes) → plan_in p (printed p nodes) ≡ Ok nodes

-- the plan of a text has a text: it may be printed, and is read again
abbrev pub PlansHaveText : Type 0
PlansHaveText = (p : Program) (bytes : List ℕ) (nodes : List Node) → plan_in p bytes ≡ Ok nodes → IsTrue (has_text p nodes)

-- programs of one job differ only in where the boxes of their expressions lie in memory: they read the same plan from a text, and print the
-- same text of a plan
pub record ReadPlansAlike (p q : Program) : Type 0 where
  pub reads : plan_in p ≡ plan_in q
  pub prints : printed p ≡ printed q

abbrev pub JobsReadPlansAlike : Type 0
JobsReadPlansAlike = (p q : Program) → IsSameJob p q → ReadPlansAlike p q
