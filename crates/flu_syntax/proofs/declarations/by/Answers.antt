use Rattle.std.proofs.Common.{◌∙◌}
use Rattle.std.proofs.lemmas.Result.{err_from_is_err_and}
use Rattle.flu_text.specs.declared.words.Word.TheVariants as w
use Rattle.flu_text.specs.declared.words.Contextual.TheVariants as contextual
use Rattle.flu_syntax.specs.Machine.{CellBy, CellList, TagBy, TagList}
use Rattle.flu_syntax.proofs.Parts.{tells, run-led, run-passed, run-named, run-no_name, cell_by, cell_list, cell_listless, tag_by, tag_list, tag_listless}
use Rattle.flu_syntax.proofs.declarations.by.Goals as goal

pub returns-in_default-clause-keys : goal.returns-in_default-clause-keys
returns-in_default-clause-keys c = λ here. run-passed c.args.end here.0 c.args.tokens.now (cell_listless here.1) c.in_default.ensures.front

pub returns-in_default-clause-items : goal.returns-in_default-clause-items
returns-in_default-clause-items c = λ here. run-passed c.args.end here.0 c.args.tokens.now (tag_listless here.1 here.2 here.3) c.in_default.ensures.front

pub returns-in_err-list-clause-keys : goal.returns-in_err-list-clause-keys
returns-in_err-list-clause-keys c =
    let word = c.in-Some.word in
    let p = err_from_is_err_and c.from_residual.result c.from_residual.ensures.1 in
    rw (p.1, p.2) (λ here. tells _ _ _ c.in_err-list.ensures.front.0
    (run-led c.args.end here.0 (CellBy here.1) (CellList here.1 word.from) (w.Name contextual.By) c.args.tokens.now c.in-Some.rest.now word
    c.in-Some.ensures.front (cell_by here.1 word)
    ∙ run-no_name c.args.end here.0 c.in-Some.rest.now (cell_list here.1 word.from) c.in_err-list.ensures.front.1))

pub returns-in_err-list-clause-items : goal.returns-in_err-list-clause-items
returns-in_err-list-clause-items c =
    let word = c.in-Some.word in
    let p = err_from_is_err_and c.from_residual.result c.from_residual.ensures.1 in
    rw (p.1, p.2) (λ here. tells _ _ _ c.in_err-list.ensures.front.0
    (run-led c.args.end here.0 (TagBy here.1 here.2 here.3) (TagList here.1 here.2 here.3 word.from) (w.Name contextual.By) c.args.tokens.now
    c.in-Some.rest.now word c.in-Some.ensures.front (tag_by here.1 here.2 here.3 word)
    ∙ run-no_name c.args.end here.0 c.in-Some.rest.now (tag_list here.1 here.2 here.3 word.from) c.in_err-list.ensures.front.1))

pub returns-clause-keys : goal.returns-clause-keys
returns-clause-keys c =
    let word = c.in-Some.word in
    λ here. run-led c.args.end here.0 (CellBy here.1) (CellList here.1 word.from) (w.Name contextual.By) c.args.tokens.now c.in-Some.rest.now word
    c.in-Some.ensures.front (cell_by here.1 word)
    ∙ run-named c.args.end here.0 c.in-Some.rest.now c.in_ok-list.rest.now c.in_ok-list.list (cell_list here.1 word.from) c.in_ok-list.ensures.front

pub returns-clause-items : goal.returns-clause-items
returns-clause-items c =
    let word = c.in-Some.word in
    λ here. run-led c.args.end here.0 (TagBy here.1 here.2 here.3) (TagList here.1 here.2 here.3 word.from) (w.Name contextual.By) c.args.tokens.now
    c.in-Some.rest.now word c.in-Some.ensures.front (tag_by here.1 here.2 here.3 word)
    ∙ run-named c.args.end here.0 c.in-Some.rest.now c.in_ok-list.rest.now c.in_ok-list.list (tag_list here.1 here.2 here.3 word.from)
    c.in_ok-list.ensures.front
