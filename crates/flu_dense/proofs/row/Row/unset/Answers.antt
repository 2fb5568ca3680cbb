use Rattle.flu_dense.specs.Tables.{value_in}
use Rattle.flu_dense.proofs.RowLemmas.{value_unset}
use Rattle.flu_dense.proofs.row.Row.unset.Goals as goal

pub returns-clause-left : goal.returns-clause-left
unfolding value_in
returns-clause-left g c j lt = value_unset c.args.self.now.held c.without-self.result c.args.self.now.values.items c.args.k j (c.without-self.ensures j lt)
