use Rattle.std.proofs.Common.{◌∙◌}
use Rattle.std.proofs.lemmas.Result.{err_from_is_err_and}
use Rattle.flu_text.specs.declared.words.Word.TheVariants as w
use Rattle.flu_names.specs.declared.reserved.Reserved.TheVariants as r
use Rattle.flu_syntax.specs.Machine.{CellForm, CellBy}
use Rattle.flu_syntax.proofs.Runs.{Tells-through}
use Rattle.flu_syntax.proofs.Parts.{run-word, run-passed, cell_keyed, cell_plain}
use Rattle.flu_syntax.proofs.declarations.cells.Goals as goal

pub returns-in_default-clause-run : goal.returns-in_default-clause-run
returns-in_default-clause-run c = λ here. run-passed c.args.end here.0 c.args.tokens.now (cell_plain here.1) c.in_default.ensures.front

pub returns-in_err-by-clause-run : goal.returns-in_err-by-clause-run
returns-in_err-by-clause-run c =
    let p = err_from_is_err_and c.from_residual.result c.from_residual.ensures.1 in
    rw (p.1, p.2) (λ here. Tells-through _ _ _ (run-word c.args.end here.0 (CellForm here.1) (CellBy here.1) (w.Reserved r.Keyed) c.args.tokens.now
    c.in-Some.rest.now c.in-Some.field-0-0 (cell_keyed here.1) c.in-Some.ensures.front) (c.in_err-by.ensures.keys here))

pub returns-clause-run : goal.returns-clause-run
returns-clause-run c =
    λ here. rw c.keyed_by.ensures
    (run-word c.args.end here.0 (CellForm here.1) (CellBy here.1) (w.Reserved r.Keyed) c.args.tokens.now c.in-Some.rest.now c.in-Some.field-0-0
    (cell_keyed here.1) c.in-Some.ensures.front ∙ c.in_ok-by.ensures.keys here)
