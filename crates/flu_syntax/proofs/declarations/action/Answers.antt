use Rattle.std.proofs.Common.{◌∙◌}
use Rattle.std.proofs.lemmas.Result.{err_from_is_err_and}
use Rattle.flu_syntax.specs.Tree.{deed_of}
use Rattle.flu_text.specs.Signs.{place_of}
use Rattle.flu_syntax.proofs.Runs.{Tells-through}
use Rattle.flu_syntax.proofs.declarations.action.Goals as goal

pub returns-in_err-guard-clause-run : goal.returns-in_err-guard-clause-run
returns-in_err-guard-clause-run c =
    let p = err_from_is_err_and c.from_residual-in_err-guard.result c.from_residual-in_err-guard.ensures.1 in
    rw (p.1, p.2) (λ here. Tells-through _ _ _ (c.in_ok-act.ensures.run here)
    (c.in_err-guard.ensures.run (here.0, here.1, place_of c.args.end c.args.tokens.now, deed_of c.in_ok-act.act)))

pub returns-clause-run : goal.returns-clause-run
returns-clause-run c =
    λ here. rw c.place_of-at.ensures (c.in_ok-act.ensures.run here
    ∙ c.in_ok-guard.ensures.run (here.0, here.1, place_of c.args.end c.args.tokens.now, deed_of c.in_ok-act.act))
