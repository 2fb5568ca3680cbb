use Rattle.std.proofs.Common.{subst}
use Rattle.std.proofs.Math.Logic.{∥∥₁_elim}
use Rattle.flu_tables.specs.Tables.{AreTablesOf}
use Rattle.flu_fork.specs.Lots.{job, nodes}
use Rattle.flu_fork.specs.Tables.{AreTables}
use Rattle.flu_fork.proofs.TableLemmas.{AreTablesOf-prop}
use Rattle.flu_fork.proofs.case.Case.into_tables.Goals as goal

pub returns : goal.returns
returns c =
    let k = c.args.self in
    record {
      rights = subst (λ q. AreTables (job q) (nodes q) c.self.inside.rights.items) c.self.view_is c.self.inside.rights_are;
      tables =
          ∥∥₁_elim (subst (λ q. ∥ AreTablesOf (job q) (nodes q) c.self.inside.tables ∥₁) c.self.view_is c.self.inside.tables_are)
          (AreTablesOf-prop (job k) (nodes k) c.self.inside.tables) (λ are. are);
    }
