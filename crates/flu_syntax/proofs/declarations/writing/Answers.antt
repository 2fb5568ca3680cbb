use Rattle.std.proofs.Common.{◌∙◌, []}
use Rattle.std.proofs.lemmas.Result.{err_from_is_err_and}
use Rattle.flu_syntax.specs.Tree.{view}
use Rattle.flu_syntax.specs.Machine.{ToWrite, Amount}
use Rattle.flu_syntax.proofs.Runs.{Tells-through, opens-nil, run-behind}
use Rattle.flu_syntax.proofs.declarations.writing.Goals as goal

pub returns-in_err-cell-clause-run : goal.returns-in_err-cell-clause-run
returns-in_err-cell-clause-run c =
    let p = err_from_is_err_and c.from_residual.result c.from_residual.ensures.1 in
    rw (p.1, p.2) (λ here. c.in_err-cell.ensures.run (here.0, ToWrite here.1 here.2 c.args.verb))

pub returns-in_err-amount-clause-run : goal.returns-in_err-amount-clause-run
returns-in_err-amount-clause-run c =
    let p = err_from_is_err_and c.from_residual-in_err-amount.result c.from_residual-in_err-amount.ensures.1 in
    rw (p.1, p.2) (λ here. Tells-through _ _ _ (c.in_ok-cell.ensures.run (here.0, ToWrite here.1 here.2 c.args.verb))
    (c.in_err-amount.ensures.run (record { before = here.0; context = Amount here.1 here.2 c.args.verb c.in_ok-cell.cell; frames = []; many = opens-nil })))

pub returns-clause-run : goal.returns-clause-run
returns-clause-run c =
    λ here. rw c.written.ensures (c.in_ok-cell.ensures.run (here.0, ToWrite here.1 here.2 c.args.verb)
    ∙ c.in_ok-amount.ensures.run (record { before = here.0; context = Amount here.1 here.2 c.args.verb c.in_ok-cell.cell; frames = []; many = opens-nil })
    ∙ run-behind c.args.end here.0 (Amount here.1 here.2 c.args.verb c.in_ok-cell.cell) (view c.in_ok-amount.amount) c.in_ok-amount.rest.now)
