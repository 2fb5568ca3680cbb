use Rattle.std.proofs.Common.{◌∙◌}
use Rattle.std.proofs.lemmas.Result.{err_from_is_err_and}
use Rattle.flu_syntax.proofs.Runs.{Tells-through}
use Rattle.flu_syntax.proofs.Parts.{tells, run-named, run-no_name, tag_name, run-keyed_tag, run-value, run-no_value, run-value_end}
use Rattle.flu_syntax.proofs.declarations.tag_line.Goals as goal

pub returns-in_err-name-clause-run : goal.returns-in_err-name-clause-run
returns-in_err-name-clause-run c =
    let p = err_from_is_err_and c.from_residual.result c.from_residual.ensures.1 in
    rw (p.1, p.2) (λ job. tells _ _ _ c.in_err-name.ensures.front.0 (run-no_name c.args.end job c.args.tokens.now tag_name c.in_err-name.ensures.front.1))

pub returns-in_err-item-clause-run : goal.returns-in_err-item-clause-run
returns-in_err-item-clause-run c =
    let p = err_from_is_err_and c.from_residual-in_err-item.result c.from_residual-in_err-item.ensures.1 in
    rw (p.1, p.2) (λ job. Tells-through _ _ _
    (run-named c.args.end job c.args.tokens.now c.in_ok-name.rest.now c.in_ok-name.name tag_name c.in_ok-name.ensures.front
    ∙ run-keyed_tag c.args.end job c.in_ok-name.name c.keyed-keyed.result.0 c.in_ok-name.rest.now c.keyed-keyed.result.1.now c.keyed-keyed.ensures)
    (c.in_err-item.ensures.run (job, c.in_ok-name.name, c.keyed-keyed.result.0)))

pub returns-in_default-clause-run : goal.returns-in_default-clause-run
returns-in_default-clause-run c = λ job. rw c.unexpected.ensures
    (run-named c.args.end job c.args.tokens.now c.in_ok-name.rest.now c.in_ok-name.name tag_name c.in_ok-name.ensures.front
    ∙ run-keyed_tag c.args.end job c.in_ok-name.name c.keyed-keyed.result.0 c.in_ok-name.rest.now c.keyed-keyed.result.1.now c.keyed-keyed.ensures
    ∙ c.in_ok-item.ensures.run (job, c.in_ok-name.name, c.keyed-keyed.result.0)
    ∙ run-value_end c.args.end job c.in_ok-name.name c.keyed-keyed.result.0 c.in_ok-item.item c.in_ok-item.rest.now
    c.in_default.ensures)

pub returns-in_default-value_of-clause-run : goal.returns-in_default-value_of-clause-run
returns-in_default-value_of-clause-run c = λ job. rw c.unexpected-in_default-value_of.ensures
    (run-named c.args.end job c.args.tokens.now c.in_ok-name.rest.now c.in_ok-name.name tag_name c.in_ok-name.ensures.front
    ∙ run-keyed_tag c.args.end job c.in_ok-name.name c.keyed-keyed.result.0 c.in_ok-name.rest.now c.keyed-keyed.result.1.now c.keyed-keyed.ensures
    ∙ c.in_ok-item.ensures.run (job, c.in_ok-name.name, c.keyed-keyed.result.0)
    ∙ run-no_value c.args.end job c.in_ok-name.name c.keyed-keyed.result.0 c.in_ok-item.item c.in_ok-item.rest.now
    c.in-Some.behind.now c.in-Some.word c.in-Some.ensures c.in_default-value_of.ensures)

pub returns-clause-run : goal.returns-clause-run
returns-clause-run c =
    λ job. run-named c.args.end job c.args.tokens.now c.in_ok-name.rest.now c.in_ok-name.name tag_name c.in_ok-name.ensures.front
    ∙ run-keyed_tag c.args.end job c.in_ok-name.name c.keyed-keyed.result.0 c.in_ok-name.rest.now c.keyed-keyed.result.1.now c.keyed-keyed.ensures
    ∙ c.in_ok-item.ensures.run (job, c.in_ok-name.name, c.keyed-keyed.result.0)
    ∙ run-value c.args.end job c.in_ok-name.name c.keyed-keyed.result.0 c.in_ok-item.item c.in_ok-item.rest.now
    c.in-Some.behind.now c.in-Some.word c.in-Some-value_of.has_value c.in-Some.ensures c.in-Some-value_of.ensures
