use Rattle.std.proofs.Common.{◌∙◌}
use Rattle.std.proofs.lemmas.Result.{err_from_is_err_and}
use Rattle.flu_text.specs.declared.words.Word.TheVariants as w
use Rattle.flu_text.specs.declared.words.Contextual.TheVariants as contextual
use Rattle.flu_syntax.specs.Machine.{TagItem, TagBy}
use Rattle.flu_syntax.proofs.Runs.{Tells-through}
use Rattle.flu_syntax.proofs.Parts.{run-led, run-passed, tag_item, tag_itemless}
use Rattle.flu_syntax.proofs.declarations.item.Goals as goal

pub returns-in_default-clause-run : goal.returns-in_default-clause-run
returns-in_default-clause-run c = λ here. run-passed c.args.end here.0 c.args.tokens.now (tag_itemless here.1 here.2) c.in_default.ensures.front

pub returns-in_err-by-clause-run : goal.returns-in_err-by-clause-run
returns-in_err-by-clause-run c =
    let word = c.in-Some.word in
    let p = err_from_is_err_and c.from_residual.result c.from_residual.ensures.1 in
    rw (p.1, p.2) (λ here. Tells-through _ _ _ (run-led c.args.end here.0 (TagItem here.1 here.2) (TagBy here.1 here.2 word.from) (w.Name contextual.Item)
    c.args.tokens.now c.in-Some.rest.now word c.in-Some.ensures.front (tag_item here.1 here.2 word))
    (c.in_err-by.ensures.items (here.0, here.1, here.2, word.from)))

pub returns-clause-run : goal.returns-clause-run
returns-clause-run c =
    let word = c.in-Some.word in
    λ here. run-led c.args.end here.0 (TagItem here.1 here.2) (TagBy here.1 here.2 word.from) (w.Name contextual.Item) c.args.tokens.now
    c.in-Some.rest.now word c.in-Some.ensures.front (tag_item here.1 here.2 word)
    ∙ c.in_ok-by.ensures.items (here.0, here.1, here.2, word.from)
