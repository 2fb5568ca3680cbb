-- What is read is what the grammar says.
use Rattle.std.specs.Prelude.{◌≡◌, ◌≤◌, ◌↔◌, ℕ, Option, List, length, Ok, IsTrue}
use Rattle.std.specs.Str.{IsUtf8}
use Rattle.flu_model.specs.declared.jobs.Program.{Program}
use Rattle.flu_model.specs.declared.plans.Node.{Node}
use Rattle.flu_model.specs.declared.jobs.Family.{Family}
use Rattle.flu_model.specs.declared.jobs.Kind.{Kind}
use Rattle.flu_model.specs.declared.jobs.Depend.{Depend}
use Rattle.flu_model.specs.declared.jobs.Source.{Source}
use Rattle.flu_model.specs.Numberings.{Numbering}
use Rattle.flu_model.specs.Texts.{Unit}
use Rattle.flu_model.specs.Erasure.{Job, job_of, IsSameJob}
use Rattle.flu_rules.specs.Kept.{KeepsRules}
use Rattle.flu_parse.specs.Laws.{job_with}
use Rattle.flu_parse.specs.Printing.{normal_form}
use Rattle.flu_parse.specs.Reading.{job_in}
use Rattle.flu_plan.specs.Kept.{KeepsRules as PlanKeepsRules}
use Rattle.flu_plan.specs.Printing.{printed, has_text}
use Rattle.flu_plan.specs.Reading.{plan_in}
use Rattle.flu_grammar.specs.Plans.{IsPlanText}
use Rattle.flu_grammar.specs.Jobs.{IsJobText}

-- the plan that is read from some bytes is the one whose text they are
abbrev pub PlansAreGrammar : Type 0
PlansAreGrammar = (p : Program) (bytes : List ℕ) (plan : List Node) → (plan_in p bytes ≡ Ok plan) ↔ IsPlanText p bytes plan

-- no bytes are the text of two plans
abbrev pub TextsHaveOnePlan : Type 0
TextsHaveOnePlan = (p : Program) (bytes : List ℕ) (a b : List Node) → IsPlanText p bytes a → IsPlanText p bytes b → a ≡ b

-- programs of one job differ only in where the boxes of their expressions lie in memory: a plan's text for one is its text for the other, and
-- no bytes are the texts of two plans for them
abbrev pub PlanTextsFitEach : Type 0
PlanTextsFitEach = (p q : Program) → IsSameJob p q → (bytes : List ℕ) (plan : List Node) → IsPlanText p bytes plan → IsPlanText q bytes plan

abbrev pub JobsHaveOnePlan : Type 0
JobsHaveOnePlan =
    (p q : Program) → IsSameJob p q → (bytes : List ℕ) (a b : List Node) → IsPlanText p bytes a → IsPlanText q bytes b → a ≡ b

-- the job that is read from some bytes is the one whose text they are
abbrev pub JobsAreGrammar : Type 0
JobsAreGrammar = (bytes : List ℕ) (job : Job) → (job_in bytes ≡ Ok job) ↔ IsJobText bytes job

-- no bytes are the text of two jobs
abbrev pub TextsHaveOneJob : Type 0
TextsHaveOneJob = (bytes : List ℕ) (a b : Job) → IsJobText bytes a → IsJobText bytes b → a ≡ b

-- the normal form of a job that keeps the rules is a text of that job, if it is not too long
abbrev pub NormalFormIsText : Type 0
NormalFormIsText =
    (version ties : ℕ) (iso : Option Unit) (lists : List Numbering) (families : List Family) (kinds : List Kind) (depends : List Depend) (sources : List Source)
    → KeepsRules version ties iso lists families kinds depends sources
    → IsUtf8 (normal_form (job_with version ties iso lists families kinds depends sources))
    → length (normal_form (job_with version ties iso lists families kinds depends sources)) ≤ 1048576
    → IsJobText (normal_form (job_with version ties iso lists families kinds depends sources)) (job_with version ties iso lists families kinds depends sources)

-- and what is printed of a plan that has a text is a text of that plan
abbrev pub PrintedIsText : Type 0
PrintedIsText = (p : Program) (plan : List Node) → PlanKeepsRules plan → IsTrue (has_text p plan) → IsPlanText p (printed p plan) plan

-- the job of a text keeps the rules of the language, wherever the boxes of its expressions are in memory
abbrev pub JobTextsKeepRules : Type 0
JobTextsKeepRules =
    (bytes : List ℕ) (version ties : ℕ) (iso : Option Unit) (lists : List Numbering) (families : List Family) (kinds : List Kind) (depends : List Depend)
    (sources : List Source)
    → IsJobText bytes (job_with version ties iso lists families kinds depends sources) → KeepsRules version ties iso lists families kinds depends sources

-- the normal form of the job of a text has at most 25 MiB
abbrev pub NormalFormIsShort : Type 0
NormalFormIsShort = (p : Program) (bytes : List ℕ) → IsJobText bytes (job_of p) → length (normal_form (job_of p)) ≤ 26214400

-- and it is UTF-8
abbrev pub NormalFormIsUtf8 : Type 0
NormalFormIsUtf8 = (bytes : List ℕ) (job : Job) → IsJobText bytes job → IsUtf8 (normal_form job)
