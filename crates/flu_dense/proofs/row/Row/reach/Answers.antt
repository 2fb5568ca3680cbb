use Rattle.std.proofs.Common.{ap, ◌+◌, arith}
use Rattle.flu_dense.specs.Rows.{held_at}
use Rattle.flu_dense.specs.Tables.{value_in}
use Rattle.flu_dense.proofs.RowLemmas.{longer, not_past}
use Rattle.flu_dense.proofs.row.Row.reach.Goals as goal

pub returns-in_err-resize-clause-same : goal.returns-in_err-resize-clause-same
unfolding value_in
returns-in_err-resize-clause-same g c j lt = ap (λ vs. held_at c.args.self.now.held vs j) c.in_err-resize.ensures.items

pub returns-in_err-resize-clause-held : goal.returns-in_err-resize-clause-held
unfolding value_in
returns-in_err-resize-clause-held g c some =
    absurd (not_past c.args.self.now.held c.args.self.now.values.items c.args.k c.args.self.now.has_values c.requires (omega arith) some)

pub returns-in_ok-resize-clause-same : goal.returns-in_ok-resize-clause-same
unfolding value_in
returns-in_ok-resize-clause-same g c j lt =
    longer c.args.self.now.held c.args.self.now.values.items c.resize.new.self.items _ (c.args.k + 1) j c.args.self.now.has_values (omega arith)
    c.in_ok-resize.ensures.items lt
