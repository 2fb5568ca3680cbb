use Rattle.std.proofs.Common.{◌∙◌}
use Rattle.std.proofs.lemmas.Result.{err_from_is_err_and}
use Rattle.flu_syntax.proofs.Runs.{Tells-through}
use Rattle.flu_syntax.proofs.Parts.{tells, run-named, run-no_name, cell_family}
use Rattle.flu_syntax.proofs.cells.cell.Goals as goal

pub returns-in_err-family-clause-run : goal.returns-in_err-family-clause-run
returns-in_err-family-clause-run c =
    let p = err_from_is_err_and c.from_residual.result c.from_residual.ensures.1 in
    rw (p.1, p.2) (λ here. tells _ _ _ c.in_err-family.ensures.front.0
    (run-no_name c.args.end here.0 c.args.tokens.now (cell_family here.1) c.in_err-family.ensures.front.1))

pub returns-in_err-key-clause-run : goal.returns-in_err-key-clause-run
returns-in_err-key-clause-run c =
    let p = err_from_is_err_and c.from_residual-in_err-key.result c.from_residual-in_err-key.ensures.1 in
    rw (p.1, p.2) (λ here. Tells-through _ _ _
    (run-named c.args.end here.0 c.args.tokens.now c.in_ok-family.rest.now c.in_ok-family.family (cell_family here.1) c.in_ok-family.ensures.front)
    (c.in_err-key.ensures.run (here.0, here.1, c.in_ok-family.family)))

pub returns-clause-run : goal.returns-clause-run
returns-clause-run c =
    λ here. run-named c.args.end here.0 c.args.tokens.now c.in_ok-family.rest.now c.in_ok-family.family (cell_family here.1) c.in_ok-family.ensures.front
    ∙ c.in_ok-key.ensures.run (here.0, here.1, c.in_ok-family.family)
