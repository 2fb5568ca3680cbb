-- The plan that is chosen from counts of events (`docs/TREE.md`, "A plan that follows the counts").
use Rattle.std.specs.Prelude.{ℕ, ◌^◌, min, List, map}
use Rattle.flu_model.specs.declared.jobs.Program.{Program}
use Rattle.flu_model.specs.declared.plans.Node.{Node}
use Rattle.flu_planner.specs.Plans.{IsGreedyPlan}

-- the rates observed for the itags with these counts, none of which is above the greatest rate that a job may declare
abbrev pub observed_rates : List ℕ → List ℕ
observed_rates counts = map (λ count. min count (2 ^ 40)) counts

-- THE OBSERVED PLAN of counts: the greedy plan of the observed rates, of depth 3
abbrev pub IsObservedPlan : Program → List ℕ → List Node → Type 0
IsObservedPlan p counts nodes = IsGreedyPlan p (observed_rates counts) 3 nodes
