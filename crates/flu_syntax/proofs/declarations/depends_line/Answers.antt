use Rattle.std.proofs.Common.{◌∙◌}
use Rattle.std.proofs.lemmas.Result.{err_from_is_err_and}
use Rattle.flu_syntax.proofs.Parts.{tells, run-named, run-no_name, depends_first, depends_second}
use Rattle.flu_syntax.proofs.declarations.depends_line.Goals as goal

pub returns-in_err-a-clause-run : goal.returns-in_err-a-clause-run
returns-in_err-a-clause-run c =
    let p = err_from_is_err_and c.from_residual.result c.from_residual.ensures.1 in
    rw (p.1, p.2) (λ job. tells _ _ _ c.in_err-a.ensures.front.0
    (run-no_name c.args.end job c.args.tokens.now depends_first c.in_err-a.ensures.front.1))

pub returns-in_err-b-clause-run : goal.returns-in_err-b-clause-run
returns-in_err-b-clause-run c =
    let p = err_from_is_err_and c.from_residual-in_err-b.result c.from_residual-in_err-b.ensures.1 in
    rw (p.1, p.2) (λ job. tells _ _ _ c.in_err-b.ensures.front.0
    (run-named c.args.end job c.args.tokens.now c.in_ok-a.rest.now c.in_ok-a.a depends_first c.in_ok-a.ensures.front
    ∙ run-no_name c.args.end job c.in_ok-a.rest.now (depends_second c.in_ok-a.a) c.in_err-b.ensures.front.1))

pub returns-clause-run : goal.returns-clause-run
returns-clause-run c =
    λ job. run-named c.args.end job c.args.tokens.now c.in_ok-a.rest.now c.in_ok-a.a depends_first c.in_ok-a.ensures.front
    ∙ run-named c.args.end job c.in_ok-a.rest.now c.in_ok-b.rest.now c.in_ok-b.b (depends_second c.in_ok-a.a)
    c.in_ok-b.ensures.front ∙ c.relation-relation.ensures.run c.args.end job c.in_ok-a.a c.in_ok-b.b
