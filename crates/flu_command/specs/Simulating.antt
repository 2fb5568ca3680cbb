-- The runs that a seed draws on the net of a job's plan.
use Rattle.std.specs.Prelude.{◌≡◌, ℕ, List, [], ◌∷◌, ◌++◌, codes, Bool, true, false}
use Rattle.std.specs.List.{flat_map, AllByRecursion}
use Rattle.flu_outside.specs.Outside.{Contents}
use Rattle.flu_model.specs.declared.events.Item.{Item}
use Rattle.flu_model.specs.declared.jobs.Program.{Program}
use Rattle.flu_model.specs.declared.plans.Node.{Node}
use Rattle.flu_model.specs.Contents.{nothing_held}
use Rattle.flu_model.specs.Folding.{final_outputs}
use Rattle.flu_model.specs.Reports as reports
use Rattle.flu_fork.specs.declared.content.Content.{Content}
use Rattle.flu_fork.specs.Lots.{setting_of}
use Rattle.flu_fork.specs.Settings.{Setting}
use Rattle.flu_live.specs.Seeded.{IsSeeded, IsTrace}
use Rattle.flu_net.specs.declared.steps.Step.{Step}
use Rattle.flu_trace.specs.Lines.{line_of, IsLineOf}
use Rattle.flu_lines.specs.declared.products.DrawnSteps.{DrawnSteps}
use Rattle.flu_command.specs.Behind.{Named, HasPlan, lists_behind}
use Rattle.flu_lines.specs.Lines.{step_line}

-- a job with the nodes of a plan and the items of its itags, from the empty state
abbrev pub from_nothing : Program → List Node → List (List Item) → Setting
from_nothing p nodes lists = record { program = p; nodes = nodes; lists = lists; opening = nothing_held }

-- these are the steps of the whole run that a seed draws on the net of a plan, over the items of the job's itags
pub record AreDrawn (p : Program) (nodes : List Node) (lists : List (List Item)) (seed : ℕ) (steps : DrawnSteps) : Type 0 where
  pub case : Content
  pub of : setting_of case ≡ from_nothing p nodes lists
  pub run : IsSeeded case seed steps.counts steps.mark

-- this is the line of the steps that a seed draws on the net of the plan under a name, over the items of the job's sources,
-- which are read after both texts
pub record IsLineOfRun (job plan : List ℕ) (seed : ℕ) (left : Contents) (p : Program) (line : List ℕ) : Type 0 where
  pub nodes : List Node
  pub has : HasPlan (Named job) plan left p nodes
  pub steps : DrawnSteps
  pub drawn : AreDrawn p nodes (lists_behind (job ∷ plan ∷ []) left p) seed steps
  pub is : line ≡ step_line steps

-- this is the line of some steps
abbrev pub IsStepLine : List ℕ → Type 0
IsStepLine line = (steps : DrawnSteps) × (line ≡ step_line steps)

-- ---- traces
-- the lines of some steps, in their order, each with a line feed
abbrev pub lines_of_steps : List Step → List ℕ
lines_of_steps steps = flat_map (λ s. line_of s ++ codes "\n") steps

-- this text is the lines of the steps of the whole run that a seed draws in a case, and each of these lines is a good one
pub record IsTraceIn (k : Content) (seed : ℕ) (text : List ℕ) : Type 0 where
  pub steps : List Step
  pub run : IsTrace k seed steps
  pub good : AllByRecursion (λ s. IsLineOf s (line_of s)) steps
  pub is : text ≡ lines_of_steps steps

-- the same, on the net of a plan, over the items of the job's itags
pub record IsTraceText (p : Program) (nodes : List Node) (lists : List (List Item)) (seed : ℕ) (text : List ℕ) : Type 0 where
  pub case : Content
  pub of : setting_of case ≡ from_nothing p nodes lists
  pub trace : IsTraceIn case seed text

-- what is written of such a run: the report of the fold; or its trace, if that is asked for
abbrev pub IsTextOn : Bool → Program → List Node → List (List Item) → ℕ → List ℕ → Type 0
IsTextOn false p nodes lists seed text = text ≡ reports.report p (final_outputs p nothing_held lists)
IsTextOn true p nodes lists seed text = IsTraceText p nodes lists seed text

-- this is the trace of the run that a seed draws on the net of the plan under a name, over the items of the job's sources, which are
-- read after both texts
pub record IsTraceOfRun (job plan : List ℕ) (seed : ℕ) (left : Contents) (p : Program) (text : List ℕ) : Type 0 where
  pub nodes : List Node
  pub has : HasPlan (Named job) plan left p nodes
  pub trace : IsTraceText p nodes (lists_behind (job ∷ plan ∷ []) left p) seed text
