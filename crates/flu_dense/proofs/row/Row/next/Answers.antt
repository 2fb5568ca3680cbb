use Rattle.flu_dense.specs.Tables.{value_in}
use Rattle.flu_dense.proofs.RowLemmas.{next_found, next_least, next_none}
use Rattle.flu_dense.proofs.row.Row.next.Goals as goal

pub returns-clause-found : goal.returns-clause-found
unfolding value_in
returns-clause-found g c =
    next_found c.args.self.now.held c.args.self.now.values.items c.args.from c.next.result c.args.self.now.has_values c.next.ensures.found

pub returns-clause-least : goal.returns-clause-least
unfolding value_in
returns-clause-least g c = next_least c.args.self.now.held c.args.self.now.values.items c.args.from c.next.result c.next.ensures.least

pub returns-clause-none : goal.returns-clause-none
unfolding value_in
returns-clause-none g c = next_none c.args.self.now.held c.args.self.now.values.items c.args.from c.next.result c.next.ensures.none
