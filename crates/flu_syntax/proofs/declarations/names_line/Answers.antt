use Rattle.std.proofs.Common.{◌∙◌}
use Rattle.std.proofs.lemmas.Result.{err_from_is_err_and}
use Rattle.flu_syntax.proofs.Runs.{Tells-through}
use Rattle.flu_syntax.proofs.Parts.{tells, run-expected, run-unexpected, run-named, run-no_name, names_name, names_colon}
use Rattle.flu_syntax.proofs.declarations.names_line.Goals as goal

pub returns-in_err-name-clause-run : goal.returns-in_err-name-clause-run
returns-in_err-name-clause-run c =
    let p = err_from_is_err_and c.from_residual.result c.from_residual.ensures.1 in
    rw (p.1, p.2) (λ job.
    tells _ _ _ c.in_err-name.ensures.front.0 (run-no_name c.args.end job c.args.tokens.now (names_name c.args.at) c.in_err-name.ensures.front.1))

pub returns-in_err-rest-clause-run : goal.returns-in_err-rest-clause-run
returns-in_err-rest-clause-run c =
    let name = c.in_ok-name.name in
    let p = err_from_is_err_and c.from_residual-in_err-rest.result c.from_residual-in_err-rest.ensures.1 in
    rw (p.1, p.2) (λ job. tells _ _ _ c.in_err-rest.ensures.front.0
    (run-named c.args.end job c.args.tokens.now c.in_ok-name.rest.now name (names_name c.args.at) c.in_ok-name.ensures.front
    ∙ run-unexpected c.args.end job c.in_ok-name.rest.now (names_colon c.args.at name) c.in_err-rest.ensures.front.1))

pub returns-in_err-texts-clause-run : goal.returns-in_err-texts-clause-run
returns-in_err-texts-clause-run c =
    let name = c.in_ok-name.name in
    let p = err_from_is_err_and c.from_residual-in_err-texts.result c.from_residual-in_err-texts.ensures.1 in
    rw (p.1, p.2) (λ job. Tells-through _ _ _
    (run-named c.args.end job c.args.tokens.now c.in_ok-name.rest.now name (names_name c.args.at) c.in_ok-name.ensures.front
    ∙ run-expected c.args.end job c.in_ok-name.rest.now c.in_ok-rest.rest.now c.in_ok-rest.field-0-0 (names_colon c.args.at name)
    c.in_ok-rest.ensures.front) (c.in_err-texts.ensures.run (job, c.args.at, name)))

pub returns-clause-run : goal.returns-clause-run
returns-clause-run c =
    let name = c.in_ok-name.name in
    λ job. run-named c.args.end job c.args.tokens.now c.in_ok-name.rest.now name (names_name c.args.at) c.in_ok-name.ensures.front
    ∙ run-expected c.args.end job c.in_ok-name.rest.now c.in_ok-rest.rest.now c.in_ok-rest.field-0-0 (names_colon c.args.at name)
    c.in_ok-rest.ensures.front
    ∙ c.in_ok-texts.ensures.run (job, c.args.at, name)
