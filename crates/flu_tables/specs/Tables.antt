-- TABLES of a job and a plan.
use Rattle.std.specs.Prelude.{◌≡◌, List}
use Rattle.flu_model.specs.declared.jobs.Program.{Program}
use Rattle.flu_model.specs.declared.plans.Node.{Node}
use Rattle.flu_tables.specs.declared.tables.Tables.{Tables}

-- the job of which they are, and the nodes of the plan
abbrev pub program_in : Tables → Program
program_in t = t.program.value

abbrev pub nodes_in : Tables → List Node
nodes_in t = t.plan.value.nodes

-- the tables are those of this job and of the plan with these nodes
pub record AreTablesOf (p : Program) (nodes : List Node) (t : Tables) : Type 0 where
  pub of_job : program_in t ≡ p
  pub of_plan : nodes_in t ≡ nodes
