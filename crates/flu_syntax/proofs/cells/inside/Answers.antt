use Rattle.std.proofs.lemmas.Result.{err_from_is_err_and}
use Rattle.flu_syntax.proofs.Parts.{tells, run-own, run-own_item, run-fixed, run-no_key}
use Rattle.flu_syntax.proofs.cells.inside.Goals as goal

pub returns-in-Some-clause-run : goal.returns-in-Some-clause-run
returns-in-Some-clause-run c = λ here. run-own c.args.end here.0 here.1 here.2 c.args.tokens.now c.in-Some.rest.now c.in-Some.word c.in-Some.ensures.front

pub returns-in-Some-take-clause-run : goal.returns-in-Some-take-clause-run
returns-in-Some-take-clause-run c =
    λ here. run-own_item c.args.end here.0 here.1 here.2 c.args.tokens.now c.in-Some-take.rest.now c.in-Some-take.word c.in-Some-take.ensures.front

pub returns-in_err-number-clause-run : goal.returns-in_err-number-clause-run
returns-in_err-number-clause-run c =
    let p = err_from_is_err_and c.from_residual.result c.from_residual.ensures.1 in
    rw (p.1, p.2) (λ here. tells _ _ _ c.in_err-number.ensures.front.0
    (run-no_key c.args.end here.0 here.1 here.2 c.args.tokens.now c.in_default.ensures.front c.in_default-take.ensures.front c.in_err-number.ensures.front.1))

pub returns-clause-run : goal.returns-clause-run
returns-clause-run c = λ here. run-fixed c.args.end here.0 here.1 here.2 c.args.tokens.now c.in_ok-number.rest.now c.in_ok-number.number
    c.in_ok-number.ensures.front
