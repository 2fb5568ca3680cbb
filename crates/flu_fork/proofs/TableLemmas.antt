-- That tables are those of a job and a plan is a fact.
use Rattle.std.proofs.Common.{List}
use Rattle.std.specs.Coded.{Coded, Coded-set, coded_list, codes}
use Rattle.flu_model.specs.declared.jobs.Program.{Program}
use Rattle.flu_model.specs.declared.plans.Node.{Node}
use Rattle.flu_model.specs.contracts.jobs.Program as programs
use Rattle.flu_model.specs.contracts.plans.Node as nodes
use Rattle.flu_tables.specs.declared.tables.Tables.{Tables}
use Rattle.flu_tables.specs.Tables.{program_in, nodes_in, AreTablesOf}

program_code : Coded Program
program_code = hlevel (codes, programs.the_row.coded)

node_code : Coded Node
node_code = hlevel (codes, nodes.the_row.coded)

pub AreTablesOf-prop : (p : Program) (ns : List Node) (t : Tables) → IsProp (AreTablesOf p ns t)
AreTablesOf-prop p ns t x y = λ i. record {
  of_job = Coded-set program_code (program_in t) p x.of_job y.of_job i;
  of_plan = Coded-set (coded_list node_code) (nodes_in t) ns x.of_plan y.of_plan i;
}
