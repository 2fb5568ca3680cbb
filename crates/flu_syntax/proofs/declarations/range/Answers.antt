use Rattle.std.proofs.Common.{◌∙◌}
use Rattle.std.proofs.lemmas.Result.{err_from_is_err_and}
use Rattle.flu_text.specs.declared.words.Word.TheVariants as w
use Rattle.flu_text.specs.declared.words.Mark.TheVariants as m
use Rattle.flu_syntax.specs.Machine.{TagMore, TagHigh}
use Rattle.flu_syntax.proofs.Parts.{tells, run-word, run-passed, run-number, run-no_number, tag_dots, tag_one, tag_high}
use Rattle.flu_syntax.proofs.declarations.range.Goals as goal

pub returns-in_default-clause-run : goal.returns-in_default-clause-run
returns-in_default-clause-run c = λ here. run-passed c.args.end here.0 c.args.tokens.now (tag_one here.1 here.2 c.args.low) c.in_default.ensures.front

pub returns-in_err-high-clause-run : goal.returns-in_err-high-clause-run
returns-in_err-high-clause-run c =
    let p = err_from_is_err_and c.from_residual.result c.from_residual.ensures.1 in
    rw (p.1, p.2) (λ here. tells _ _ _ c.in_err-high.ensures.front.0
    (run-word c.args.end here.0 (TagMore here.1 here.2 c.args.low) (TagHigh here.1 here.2 c.args.low) (w.Mark m.Dots) c.args.tokens.now
    c.in-Some.rest.now c.in-Some.field-0-0 (tag_dots here.1 here.2 c.args.low) c.in-Some.ensures.front
    ∙ run-no_number c.args.end here.0 c.in-Some.rest.now (tag_high here.1 here.2 c.args.low) c.in_err-high.ensures.front.1))

pub returns-clause-run : goal.returns-clause-run
returns-clause-run c = λ here. run-word c.args.end here.0 (TagMore here.1 here.2 c.args.low) (TagHigh here.1 here.2 c.args.low) (w.Mark m.Dots)
    c.args.tokens.now c.in-Some.rest.now c.in-Some.field-0-0 (tag_dots here.1 here.2 c.args.low) c.in-Some.ensures.front
    ∙ run-number c.args.end here.0 c.in-Some.rest.now c.in_ok-high.rest.now c.in_ok-high.high (tag_high here.1 here.2 c.args.low) c.in_ok-high.ensures.front
