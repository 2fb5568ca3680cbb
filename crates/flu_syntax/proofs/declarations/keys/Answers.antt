use Rattle.std.proofs.Common.{◌∙◌}
use Rattle.std.proofs.lemmas.Result.{err_from_is_err_and}
use Rattle.flu_text.specs.declared.words.Word.TheVariants as w
use Rattle.flu_text.specs.declared.words.Mark.TheVariants as m
use Rattle.flu_syntax.specs.Machine.{TagKeys, TagLow}
use Rattle.flu_syntax.proofs.Runs.{Tells-through}
use Rattle.flu_syntax.proofs.Parts.{tells, run-word, run-passed, run-number, run-no_number, run-expected}
use Rattle.flu_syntax.proofs.Parts.{run-unexpected, tag_bracket, tag_alone, tag_low, tag_close}
use Rattle.flu_syntax.proofs.declarations.keys.Goals as goal

pub returns-in_default-clause-run : goal.returns-in_default-clause-run
returns-in_default-clause-run c = λ here. run-passed c.args.end here.0 c.args.tokens.now (tag_alone here.1 here.2) c.in_default.ensures.front

pub returns-in_err-low-clause-run : goal.returns-in_err-low-clause-run
returns-in_err-low-clause-run c =
    let p = err_from_is_err_and c.from_residual.result c.from_residual.ensures.1 in
    rw (p.1, p.2) (λ here. tells _ _ _ c.in_err-low.ensures.front.0
    (run-word c.args.end here.0 (TagKeys here.1 here.2) (TagLow here.1 here.2) (w.Mark m.OpenBracket) c.args.tokens.now c.in-Some.rest.now
    c.in-Some.field-0-0 (tag_bracket here.1 here.2) c.in-Some.ensures.front
    ∙ run-no_number c.args.end here.0 c.in-Some.rest.now (tag_low here.1 here.2) c.in_err-low.ensures.front.1))

pub returns-in_err-keys-clause-run : goal.returns-in_err-keys-clause-run
returns-in_err-keys-clause-run c =
    let p = err_from_is_err_and c.from_residual-in_err-keys.result c.from_residual-in_err-keys.ensures.1 in
    rw (p.1, p.2) (λ here. Tells-through _ _ _
    (run-word c.args.end here.0 (TagKeys here.1 here.2) (TagLow here.1 here.2) (w.Mark m.OpenBracket) c.args.tokens.now c.in-Some.rest.now
    c.in-Some.field-0-0 (tag_bracket here.1 here.2) c.in-Some.ensures.front
    ∙ run-number c.args.end here.0 c.in-Some.rest.now c.in_ok-low.rest.now c.in_ok-low.low (tag_low here.1 here.2) c.in_ok-low.ensures.front)
    (c.in_err-keys.ensures.run here))

pub returns-in_err-rest-clause-run : goal.returns-in_err-rest-clause-run
returns-in_err-rest-clause-run c =
    let p = err_from_is_err_and c.from_residual-in_err-rest.result c.from_residual-in_err-rest.ensures.1 in
    rw (p.1, p.2) (λ here. tells _ _ _ c.in_err-rest.ensures.front.0
    (run-word c.args.end here.0 (TagKeys here.1 here.2) (TagLow here.1 here.2) (w.Mark m.OpenBracket) c.args.tokens.now c.in-Some.rest.now
    c.in-Some.field-0-0 (tag_bracket here.1 here.2) c.in-Some.ensures.front
    ∙ run-number c.args.end here.0 c.in-Some.rest.now c.in_ok-low.rest.now c.in_ok-low.low (tag_low here.1 here.2) c.in_ok-low.ensures.front
    ∙ c.in_ok-keys.ensures.run here
    ∙ run-unexpected c.args.end here.0 c.in_ok-keys.rest.now (tag_close here.1 here.2 c.in_ok-keys.keys) c.in_err-rest.ensures.front.1))

pub returns-clause-run : goal.returns-clause-run
returns-clause-run c = λ here. run-word c.args.end here.0 (TagKeys here.1 here.2) (TagLow here.1 here.2) (w.Mark m.OpenBracket) c.args.tokens.now
    c.in-Some.rest.now c.in-Some.field-0-0 (tag_bracket here.1 here.2) c.in-Some.ensures.front
    ∙ run-number c.args.end here.0 c.in-Some.rest.now c.in_ok-low.rest.now c.in_ok-low.low (tag_low here.1 here.2) c.in_ok-low.ensures.front
    ∙ c.in_ok-keys.ensures.run here
    ∙ run-expected c.args.end here.0 c.in_ok-keys.rest.now c.in_ok-rest.rest.now c.in_ok-rest.field-0-0
    (tag_close here.1 here.2 c.in_ok-keys.keys) c.in_ok-rest.ensures.front
