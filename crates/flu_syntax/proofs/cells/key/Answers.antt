use Rattle.std.proofs.Common.{◌∙◌}
use Rattle.std.proofs.lemmas.Result.{err_from_is_err_and}
use Rattle.flu_syntax.specs.Machine.{cell_of}
use Rattle.flu_syntax.proofs.Runs.{Tells-through}
use Rattle.flu_syntax.proofs.Parts.{tells, run-bracket, run-passed, run-expected, run-unexpected, cell_alone, cell_close}
use Rattle.flu_syntax.proofs.cells.key.Goals as goal

pub returns-in_default-clause-run : goal.returns-in_default-clause-run
returns-in_default-clause-run c = λ here. run-passed c.args.end here.0 c.args.tokens.now (cell_alone here.1 here.2) c.in_default.ensures.front

pub returns-in_err-key-clause-run : goal.returns-in_err-key-clause-run
returns-in_err-key-clause-run c =
    let p = err_from_is_err_and c.from_residual.result c.from_residual.ensures.1 in
    rw (p.1, p.2) (λ here. Tells-through _ _ _
    (run-bracket c.args.end here.0 here.1 here.2 c.args.tokens.now c.in-Some.rest.now c.in-Some.field-0-0 c.in-Some.ensures.front)
    (c.in_err-key.ensures.run here))

pub returns-in_err-rest-clause-run : goal.returns-in_err-rest-clause-run
returns-in_err-rest-clause-run c =
    let p = err_from_is_err_and c.from_residual-in_err-rest.result c.from_residual-in_err-rest.ensures.1 in
    rw (p.1, p.2) (λ here. tells _ _ _ c.in_err-rest.ensures.front.0
    (run-bracket c.args.end here.0 here.1 here.2 c.args.tokens.now c.in-Some.rest.now c.in-Some.field-0-0 c.in-Some.ensures.front
    ∙ c.in_ok-key.ensures.run here
    ∙ run-unexpected c.args.end here.0 c.in_ok-key.rest.now (cell_close here.1 (cell_of here.2 c.in_ok-key.key)) c.in_err-rest.ensures.front.1))

pub returns-clause-run : goal.returns-clause-run
returns-clause-run c =
    λ here. run-bracket c.args.end here.0 here.1 here.2 c.args.tokens.now c.in-Some.rest.now c.in-Some.field-0-0 c.in-Some.ensures.front
    ∙ c.in_ok-key.ensures.run here
    ∙ run-expected c.args.end here.0 c.in_ok-key.rest.now c.in_ok-rest.rest.now c.in_ok-rest.field-0-0
    (cell_close here.1 (cell_of here.2 c.in_ok-key.key)) c.in_ok-rest.ensures.front
