use Rattle.std.proofs.Common.{sym, ◌∙◌}
use Rattle.flu_dense.proofs.PartLemmas.{with_table, without_table}
use Rattle.flu_dense.proofs.sparse.Sparse.get.Goals as goal

pub returns-in-Some : goal.returns-in-Some
returns-in-Some g c = c.get-in-Some.ensures ∙ sym (with_table c.args.self.now.parts c.args.n c.in-Some.table.now c.in-Some.ensures.value)

pub returns-in-None : goal.returns-in-None
returns-in-None g c = sym (without_table c.args.self.now.parts c.args.n c.in-None.ensures.value)
