use Rattle.std.proofs.Common.{◌∙◌, []}
use Rattle.std.proofs.lemmas.Result.{err_from_is_err_and}
use Rattle.flu_text.specs.declared.words.Word.TheVariants as w
use Rattle.flu_names.specs.declared.reserved.Reserved.TheVariants as r
use Rattle.flu_syntax.specs.Tree.{view}
use Rattle.flu_syntax.specs.Machine.{Guard, DeedEnd, InExpression, Want}
use Rattle.flu_syntax.proofs.Runs.{Tells-through, opens-nil, run-behind}
use Rattle.flu_syntax.proofs.Parts.{run-word, run-passed, deed_when, deed_plain}
use Rattle.flu_syntax.proofs.declarations.guard.Goals as goal

pub returns-in_default-clause-run : goal.returns-in_default-clause-run
returns-in_default-clause-run c = λ here. run-passed c.args.end here.0 c.args.tokens.now (deed_plain here.1 here.2 here.3) c.in_default.ensures.front

pub returns-in_err-guard-clause-run : goal.returns-in_err-guard-clause-run
returns-in_err-guard-clause-run c =
    let p = err_from_is_err_and c.from_residual.result c.from_residual.ensures.1 in
    rw (p.1, p.2) (λ here. Tells-through _ _ _
    (run-word c.args.end here.0 (DeedEnd here.1 here.2 here.3) (InExpression (Guard here.1 here.2 here.3) (Want 0) []) (w.Reserved r.When)
    c.args.tokens.now c.in-Some.rest.now c.in-Some.field-0-0 (deed_when here.1 here.2 here.3) c.in-Some.ensures.front)
    (c.in_err-guard.ensures.run (record { before = here.0; context = Guard here.1 here.2 here.3; frames = []; many = opens-nil })))

pub returns-clause-run : goal.returns-clause-run
returns-clause-run c = λ here. run-word c.args.end here.0 (DeedEnd here.1 here.2 here.3) (InExpression (Guard here.1 here.2 here.3) (Want 0) [])
    (w.Reserved r.When) c.args.tokens.now c.in-Some.rest.now c.in-Some.field-0-0 (deed_when here.1 here.2 here.3) c.in-Some.ensures.front
    ∙ c.in_ok-guard.ensures.run (record { before = here.0; context = Guard here.1 here.2 here.3; frames = []; many = opens-nil })
    ∙ run-behind c.args.end here.0 (Guard here.1 here.2 here.3) (view c.in_ok-guard.guard) c.in_ok-guard.rest.now
