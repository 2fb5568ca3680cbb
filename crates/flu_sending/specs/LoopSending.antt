-- What the loops over items and events have come to.
use Rattle.std.specs.Prelude.{◌≡◌, ℕ, Option, Some, None, List}
use Rattle.flu_model.specs.declared.events.Event.{Event}
use Rattle.flu_model.specs.declared.jobs.Program.{Program}
use Rattle.flu_model.specs.declared.plans.Node.{Node}
use Rattle.flu_model.specs.Sorts.{IsStateOf}
use Rattle.flu_deps.specs.Validated.{plan_of}
use Rattle.flu_apart.specs.Subtrees.{job, nodes, node}
use Rattle.flu_contribution.specs.declared.contributing.Contributing.{Contributing}
use Rattle.flu_contribution.specs.Contributions.{Contribution, contributions_from}
use Rattle.flu_contribution.specs.Parts.{open_of, subtree_of}
use Rattle.flu_contribution.specs.Sending.{sent}
use Rattle.flu_sending.specs.declared.sending.Part.{Part}
use Rattle.flu_sending.specs.Lines.{lines_of}

-- one of two times by a choice; where only one is there, that one
abbrev pub chosen : (ℕ → ℕ → ℕ) → Option ℕ → Option ℕ → Option ℕ
chosen choose None b = b
chosen choose (Some t) None = Some t
chosen choose (Some t) (Some u) = Some (choose t u)

-- the job and the plan's nodes
abbrev pub program_in : Part → Program
program_in s = s.program.now

abbrev pub nodes_in : Part → List Node
nodes_in s = (plan_of s.valid.now).nodes

-- the lines of some contributions
abbrev pub lines_by : Part → List Contribution → List ℕ
lines_by s ks = lines_of (program_in s) s.last ks

-- the lines of what the node sends from an open contribution on
abbrev pub lines_from : Part → Contribution → List Event → List ℕ
lines_from s k xs = lines_by s (sent (contributions_from (program_in s) (nodes_in s) s.node k xs))

-- the node with an open contribution, whose cells are of the job's sorts
pub record IsNodeOf (s : Part) (k : Contributing) : Type 0 where
  pub job : job (subtree_of k) ≡ program_in s
  pub nodes : nodes (subtree_of k) ≡ nodes_in s
  pub node : node (subtree_of k) ≡ s.node
  pub sorts : IsStateOf (program_in s).families (open_of k).cells
