use Rattle.std.proofs.Common.{◌∙◌, refl, sym}
use Rattle.std.proofs.lemmas.Result.{err_from_is_err_and}
use Rattle.flu_syntax.specs.declared.tokens.Doing.TheVariants as doing
use Rattle.flu_syntax.specs.Tree.{deed_of}
use Rattle.flu_syntax.specs.Machine.{CellFamily, ToClear, EmitText, FlushFamily}
use Rattle.flu_syntax.proofs.Runs.{Tells-through}
use Rattle.flu_syntax.proofs.Parts.{tells, run-expected, run-unexpected, run-named, run-no_name, run-doing, run-no_doing}
use Rattle.flu_syntax.proofs.Parts.{run-doing_end, through_write, emit_text, flush_family, flush_text}
use Rattle.flu_syntax.proofs.declarations.act.Goals as goal

pub returns-in_default-clause-run : goal.returns-in_default-clause-run
returns-in_default-clause-run c = λ here. rw c.unexpected.ensures (run-doing_end c.args.end here.0 here.1 c.args.tokens.now c.in_default.ensures)

pub returns-in-Other-clause-run : goal.returns-in-Other-clause-run
returns-in-Other-clause-run c = λ here. rw c.unexpected-in-Other.ensures
    (run-no_doing c.args.end here.0 here.1 c.args.tokens.now c.in-Some.rest.now c.in-Some.token c.in-Some.ensures (sym c.in-Other.is ∙ c.doing_of.ensures))

pub returns-in-Write-clause-run : goal.returns-in-Write-clause-run
returns-in-Write-clause-run c =
    through_write c.args.end c.args.tokens.now c.in-Some.rest.now c.in-Some.token c.in-Write.verb (λ x. deed_of x.0) (λ x. x.1.now) c.writing.result
    c.in-Some.ensures (sym c.in-Write.is ∙ c.doing_of.ensures) c.writing.ensures.run

pub returns-in_err-cell-in-Clear-clause-run : goal.returns-in_err-cell-in-Clear-clause-run
returns-in_err-cell-in-Clear-clause-run c =
    let p = err_from_is_err_and c.from_residual.result c.from_residual.ensures.1 in
    rw (p.1, p.2) (λ here. rw c.in-Some.ensures
    (Tells-through _ _ _ (run-doing c.args.end here.0 here.1 (CellFamily (ToClear here.1 c.in-Some.token.from)) c.in-Some.token c.in-Some.rest.now
    doing.Clear (sym c.in-Clear.is ∙ c.doing_of.ensures) refl) (c.in_err-cell-in-Clear.ensures.run (here.0, ToClear here.1 c.in-Some.token.from))))

pub returns-in_ok-cell-in-Clear-clause-run : goal.returns-in_ok-cell-in-Clear-clause-run
returns-in_ok-cell-in-Clear-clause-run c = λ here. rw c.in-Some.ensures
    (run-doing c.args.end here.0 here.1 (CellFamily (ToClear here.1 c.in-Some.token.from)) c.in-Some.token c.in-Some.rest.now doing.Clear (sym c.in-Clear.is
    ∙ c.doing_of.ensures) refl ∙ c.in_ok-cell-in-Clear.ensures.run (here.0, ToClear here.1 c.in-Some.token.from))

pub returns-in_err-text-in-Emit-clause-run : goal.returns-in_err-text-in-Emit-clause-run
returns-in_err-text-in-Emit-clause-run c =
    let p = err_from_is_err_and c.from_residual-in_err-text-in-Emit.result c.from_residual-in_err-text-in-Emit.ensures.1 in
    rw (p.1, p.2) (λ here. rw c.in-Some.ensures
    (tells _ _ _ c.in_err-text-in-Emit.ensures.front.0
    (run-doing c.args.end here.0 here.1 (EmitText here.1 c.in-Some.token.from) c.in-Some.token c.in-Some.rest.now doing.Emit (sym c.in-Emit.is
    ∙ c.doing_of.ensures) refl
    ∙ run-unexpected c.args.end here.0 c.in-Some.rest.now (emit_text here.1 c.in-Some.token.from) c.in_err-text-in-Emit.ensures.front.1)))

pub returns-in_ok-text-in-Emit-clause-run : goal.returns-in_ok-text-in-Emit-clause-run
returns-in_ok-text-in-Emit-clause-run c = λ here. rw (c.in-Some.ensures, c.span_of.ensures)
    (run-doing c.args.end here.0 here.1 (EmitText here.1 c.in-Some.token.from) c.in-Some.token c.in-Some.rest.now doing.Emit (sym c.in-Emit.is
    ∙ c.doing_of.ensures) refl
    ∙ run-expected c.args.end here.0 c.in-Some.rest.now c.in_ok-text-in-Emit.rest.now c.in_ok-text-in-Emit.text
    (emit_text here.1 c.in-Some.token.from) c.in_ok-text-in-Emit.ensures.front)

pub returns-in_err-family-in-Flush-clause-run : goal.returns-in_err-family-in-Flush-clause-run
returns-in_err-family-in-Flush-clause-run c =
    let p = err_from_is_err_and c.from_residual-in_err-family-in-Flush.result c.from_residual-in_err-family-in-Flush.ensures.1 in
    rw (p.1, p.2) (λ here. rw c.in-Some.ensures
    (tells _ _ _ c.in_err-family-in-Flush.ensures.front.0
    (run-doing c.args.end here.0 here.1 (FlushFamily here.1 c.in-Some.token.from) c.in-Some.token c.in-Some.rest.now doing.Flush (sym c.in-Flush.is
    ∙ c.doing_of.ensures) refl
    ∙ run-no_name c.args.end here.0 c.in-Some.rest.now (flush_family here.1 c.in-Some.token.from) c.in_err-family-in-Flush.ensures.front.1)))

pub returns-in_err-text-in-Flush-clause-run : goal.returns-in_err-text-in-Flush-clause-run
returns-in_err-text-in-Flush-clause-run c =
    let p = err_from_is_err_and c.from_residual-in_err-text-in-Flush.result c.from_residual-in_err-text-in-Flush.ensures.1 in
    rw (p.1, p.2) (λ here. rw c.in-Some.ensures
    (tells _ _ _ c.in_err-text-in-Flush.ensures.front.0
    (run-doing c.args.end here.0 here.1 (FlushFamily here.1 c.in-Some.token.from) c.in-Some.token c.in-Some.rest.now doing.Flush (sym c.in-Flush.is
    ∙ c.doing_of.ensures) refl
    ∙ run-named c.args.end here.0 c.in-Some.rest.now c.in_ok-family-in-Flush.rest.now c.in_ok-family-in-Flush.family
    (flush_family here.1 c.in-Some.token.from) c.in_ok-family-in-Flush.ensures.front
    ∙ run-unexpected c.args.end here.0 c.in_ok-family-in-Flush.rest.now
    (flush_text here.1 c.in-Some.token.from c.in_ok-family-in-Flush.family) c.in_err-text-in-Flush.ensures.front.1)))

pub returns-in_ok-text-in-Flush-clause-run : goal.returns-in_ok-text-in-Flush-clause-run
returns-in_ok-text-in-Flush-clause-run c = λ here. rw (c.in-Some.ensures, c.span_of-in-Flush.ensures)
    (run-doing c.args.end here.0 here.1 (FlushFamily here.1 c.in-Some.token.from) c.in-Some.token c.in-Some.rest.now doing.Flush (sym c.in-Flush.is
    ∙ c.doing_of.ensures) refl
    ∙ run-named c.args.end here.0 c.in-Some.rest.now c.in_ok-family-in-Flush.rest.now c.in_ok-family-in-Flush.family
    (flush_family here.1 c.in-Some.token.from) c.in_ok-family-in-Flush.ensures.front
    ∙ run-expected c.args.end here.0 c.in_ok-family-in-Flush.rest.now c.in_ok-text-in-Flush.rest.now c.in_ok-text-in-Flush.text
    (flush_text here.1 c.in-Some.token.from c.in_ok-family-in-Flush.family) c.in_ok-text-in-Flush.ensures.front)
