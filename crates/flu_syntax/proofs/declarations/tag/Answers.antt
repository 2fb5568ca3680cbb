use Rattle.std.proofs.Common.{◌∙◌}
use Rattle.std.proofs.lemmas.Result.{err_from_is_err_and}
use Rattle.flu_syntax.proofs.Runs.{Tells-through}
use Rattle.flu_syntax.proofs.Parts.{tells, run-named, run-no_name, tag_kind}
use Rattle.flu_syntax.proofs.declarations.tag.Goals as goal

pub returns-in_err-kind-clause-run : goal.returns-in_err-kind-clause-run
returns-in_err-kind-clause-run c =
    let p = err_from_is_err_and c.from_residual.result c.from_residual.ensures.1 in
    rw (p.1, p.2) (λ here. tells _ _ _ c.in_err-kind.ensures.front.0
    (run-no_name c.args.end here.0 c.args.tokens.now (tag_kind here.1) c.in_err-kind.ensures.front.1))

pub returns-in_err-keys-clause-run : goal.returns-in_err-keys-clause-run
returns-in_err-keys-clause-run c =
    let p = err_from_is_err_and c.from_residual-in_err-keys.result c.from_residual-in_err-keys.ensures.1 in
    rw (p.1, p.2) (λ here. Tells-through _ _ _
    (run-named c.args.end here.0 c.args.tokens.now c.in_ok-kind.rest.now c.in_ok-kind.kind (tag_kind here.1) c.in_ok-kind.ensures.front)
    (c.in_err-keys.ensures.run (here.0, here.1, c.in_ok-kind.kind)))

pub returns-clause-run : goal.returns-clause-run
returns-clause-run c =
    λ here. run-named c.args.end here.0 c.args.tokens.now c.in_ok-kind.rest.now c.in_ok-kind.kind (tag_kind here.1) c.in_ok-kind.ensures.front
    ∙ c.in_ok-keys.ensures.run (here.0, here.1, c.in_ok-kind.kind)
