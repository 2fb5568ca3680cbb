use Rattle.std.proofs.Common.{Some, ◌∙◌}
use Rattle.flu_dense.specs.Tables.{value_in}
use Rattle.flu_dense.proofs.RowLemmas.{value_set, same_then}
use Rattle.flu_dense.proofs.row.Row.set.Goals as goal

pub returns-clause-ok : goal.returns-clause-ok
unfolding value_in
returns-clause-ok g c j lt =
    value_set c.reach.new.self.held c.with-self.result c.reach.new.self.values.items c.args.k j c.args.value (c.with-self.ensures j) c.in_ok-reach.ensures.room
    ∙ same_then (value_in c.args.self.now) (value_in c.reach.new.self) c.args.k j (Some c.args.value) (c.in_ok-reach.ensures.same j lt)
