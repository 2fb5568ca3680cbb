use Rattle.std.proofs.Common.{ap, ◌∙◌}
use Rattle.flu_dense.specs.Rows.{held_at}
use Rattle.flu_dense.specs.Tables.{value_in}
use Rattle.flu_dense.proofs.row.Row.copy.Goals as goal

pub returns : goal.returns
unfolding value_in
returns g c k = ap (λ vs. held_at c.args.self.now.held vs k) (c.in_ok-from_slice.ensures.items ∙ c.as_slice.ensures.value)
