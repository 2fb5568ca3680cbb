use Rattle.std.proofs.Common.{◌∙◌}
use Rattle.std.proofs.lemmas.Result.{err_from_is_err_and}
use Rattle.flu_syntax.proofs.Runs.{Tells-through}
use Rattle.flu_syntax.proofs.Parts.{tells, run-expected, run-unexpected, run-named, run-no_name, on_kind, on_mark}
use Rattle.flu_syntax.proofs.declarations.on_line.Goals as goal

pub returns-in_err-kind-clause-run : goal.returns-in_err-kind-clause-run
returns-in_err-kind-clause-run c =
    let p = err_from_is_err_and c.from_residual.result c.from_residual.ensures.1 in
    rw (p.1, p.2) (λ job. tells _ _ _ c.in_err-kind.ensures.front.0 (run-no_name c.args.end job c.args.tokens.now on_kind c.in_err-kind.ensures.front.1))

pub returns-in_err-rest-clause-run : goal.returns-in_err-rest-clause-run
returns-in_err-rest-clause-run c =
    let p = err_from_is_err_and c.from_residual-in_err-rest.result c.from_residual-in_err-rest.ensures.1 in
    rw (p.1, p.2) (λ job. tells _ _ _ c.in_err-rest.ensures.front.0
    (run-named c.args.end job c.args.tokens.now c.in_ok-kind.rest.now c.in_ok-kind.kind on_kind c.in_ok-kind.ensures.front
    ∙ run-unexpected c.args.end job c.in_ok-kind.rest.now (on_mark c.in_ok-kind.kind) c.in_err-rest.ensures.front.1))

pub returns-in_err-actions-clause-run : goal.returns-in_err-actions-clause-run
returns-in_err-actions-clause-run c =
    let p = err_from_is_err_and c.from_residual-in_err-actions.result c.from_residual-in_err-actions.ensures.1 in
    rw (p.1, p.2) (λ job. Tells-through _ _ _
    (run-named c.args.end job c.args.tokens.now c.in_ok-kind.rest.now c.in_ok-kind.kind on_kind c.in_ok-kind.ensures.front
    ∙ run-expected c.args.end job c.in_ok-kind.rest.now c.in_ok-rest.rest.now c.in_ok-rest.field-0-0 (on_mark c.in_ok-kind.kind)
    c.in_ok-rest.ensures.front) (c.in_err-actions.ensures.run (job, c.in_ok-kind.kind)))

pub returns-clause-run : goal.returns-clause-run
returns-clause-run c =
    λ job. run-named c.args.end job c.args.tokens.now c.in_ok-kind.rest.now c.in_ok-kind.kind on_kind c.in_ok-kind.ensures.front
    ∙ run-expected c.args.end job c.in_ok-kind.rest.now c.in_ok-rest.rest.now c.in_ok-rest.field-0-0 (on_mark c.in_ok-kind.kind)
    c.in_ok-rest.ensures.front ∙ c.in_ok-actions.ensures.run (job, c.in_ok-kind.kind)
