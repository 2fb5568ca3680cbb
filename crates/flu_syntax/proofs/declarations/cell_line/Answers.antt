use Rattle.std.proofs.Common.{◌∙◌}
use Rattle.std.proofs.lemmas.Result.{err_from_is_err_and}
use Rattle.flu_syntax.proofs.Runs.{Tells-through}
use Rattle.flu_syntax.proofs.Parts.{tells, run-named, run-no_name, cell_name, run-sort, run-no_sort, run-sort_end}
use Rattle.flu_syntax.proofs.declarations.cell_line.Goals as goal

pub returns-in_err-name-clause-run : goal.returns-in_err-name-clause-run
returns-in_err-name-clause-run c =
    let p = err_from_is_err_and c.from_residual.result c.from_residual.ensures.1 in
    rw (p.1, p.2) (λ job. tells _ _ _ c.in_err-name.ensures.front.0 (run-no_name c.args.end job c.args.tokens.now cell_name c.in_err-name.ensures.front.1))

pub returns-in_err-cells-clause-run : goal.returns-in_err-cells-clause-run
returns-in_err-cells-clause-run c =
    let p = err_from_is_err_and c.from_residual-in_err-cells.result c.from_residual-in_err-cells.ensures.1 in
    rw (p.1, p.2) (λ job. Tells-through _ _ _
    (run-named c.args.end job c.args.tokens.now c.in_ok-name.rest.now c.in_ok-name.name cell_name c.in_ok-name.ensures.front)
    (c.in_err-cells.ensures.run (job, c.in_ok-name.name)))

pub returns-in_default-clause-run : goal.returns-in_default-clause-run
returns-in_default-clause-run c = λ job. rw c.unexpected.ensures
    (run-named c.args.end job c.args.tokens.now c.in_ok-name.rest.now c.in_ok-name.name cell_name c.in_ok-name.ensures.front
    ∙ c.in_ok-cells.ensures.run (job, c.in_ok-name.name)
    ∙ run-sort_end c.args.end job c.in_ok-name.name c.in_ok-cells.cells c.in_ok-cells.rest.now c.in_default.ensures)

pub returns-in_default-sort_of-clause-run : goal.returns-in_default-sort_of-clause-run
returns-in_default-sort_of-clause-run c = λ job. rw c.unexpected-in_default-sort_of.ensures
    (run-named c.args.end job c.args.tokens.now c.in_ok-name.rest.now c.in_ok-name.name cell_name c.in_ok-name.ensures.front
    ∙ c.in_ok-cells.ensures.run (job, c.in_ok-name.name)
    ∙ run-no_sort c.args.end job c.in_ok-name.name c.in_ok-cells.cells c.in_ok-cells.rest.now c.in-Some.behind.now c.in-Some.word c.in-Some.ensures
    c.in_default-sort_of.ensures)

pub returns-clause-run : goal.returns-clause-run
returns-clause-run c =
    λ job. run-named c.args.end job c.args.tokens.now c.in_ok-name.rest.now c.in_ok-name.name cell_name c.in_ok-name.ensures.front
    ∙ c.in_ok-cells.ensures.run (job, c.in_ok-name.name)
    ∙ run-sort c.args.end job c.in_ok-name.name c.in_ok-cells.cells c.in_ok-cells.rest.now c.in-Some.behind.now c.in-Some.word c.in-Some-sort_of.sort
    c.in-Some.ensures c.in-Some-sort_of.ensures
