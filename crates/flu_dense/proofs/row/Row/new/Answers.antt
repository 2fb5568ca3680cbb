use Rattle.flu_dense.specs.Tables.{value_in}
use Rattle.flu_dense.proofs.RowLemmas.{not_held}
use Rattle.flu_dense.proofs.row.Row.new.Goals as goal

pub returns : goal.returns
unfolding value_in
returns g c k = not_held c.none.result c.new.result.items k (c.none.ensures k)
