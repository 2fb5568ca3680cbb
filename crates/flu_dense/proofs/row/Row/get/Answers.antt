use Rattle.std.proofs.Common.{sym, ◌∙◌}
use Rattle.flu_dense.specs.Tables.{value_in}
use Rattle.flu_dense.proofs.RowLemmas.{held_here, not_held}
use Rattle.flu_dense.proofs.row.Row.get.Goals as goal

pub returns-then-has : goal.returns-then-has
unfolding value_in
returns-then-has g c =
    let here = sym c.has.ensures ∙ c.if-has.true in
    held_here c.args.self.now.held c.args.self.now.values.items c.args.k c.index.result.now here
    (c.args.self.now.has_values c.args.k c.requires here) c.index.ensures

pub returns-else-has : goal.returns-else-has
unfolding value_in
returns-else-has g c = sym (not_held c.args.self.now.held c.args.self.now.values.items c.args.k (sym c.has.ensures ∙ c.if-has.false))
