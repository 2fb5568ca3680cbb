use Rattle.std.proofs.Common.{◌∙◌}
use Rattle.std.proofs.lemmas.Result.{err_from_is_err_and}
use Rattle.flu_text.specs.Signs.{span_of}
use Rattle.flu_syntax.specs.Reading.{Head}
use Rattle.flu_syntax.proofs.Runs.{Tells-through}
use Rattle.flu_syntax.proofs.Parts.{tells, run-expected, run-unexpected, run-named, run-no_name, source_name, source_file, source_colon}
use Rattle.flu_syntax.proofs.declarations.source_line.Goals as goal

pub returns-in_err-name-clause-run : goal.returns-in_err-name-clause-run
returns-in_err-name-clause-run c =
    let p = err_from_is_err_and c.from_residual.result c.from_residual.ensures.1 in
    rw (p.1, p.2) (λ job.
    tells _ _ _ c.in_err-name.ensures.front.0 (run-no_name c.args.end job c.args.tokens.now source_name c.in_err-name.ensures.front.1))

pub returns-in_err-text-clause-run : goal.returns-in_err-text-clause-run
returns-in_err-text-clause-run c =
    let name = c.in_ok-name.name in
    let p = err_from_is_err_and c.from_residual-in_err-text.result c.from_residual-in_err-text.ensures.1 in
    rw (p.1, p.2) (λ job.
    tells _ _ _ c.in_err-text.ensures.front.0 (
    run-named c.args.end job c.args.tokens.now c.in_ok-name.rest.now c.in_ok-name.name source_name c.in_ok-name.ensures.front
    ∙ run-unexpected c.args.end job c.in_ok-name.rest.now (source_file name) c.in_err-text.ensures.front.1))

pub returns-in_err-rate-clause-run : goal.returns-in_err-rate-clause-run
returns-in_err-rate-clause-run c =
    let name = c.in_ok-name.name in
    let file = span_of c.in_ok-text.text in
    let p = err_from_is_err_and c.from_residual-in_err-rate.result c.from_residual-in_err-rate.ensures.1 in
    rw (p.1, p.2) (λ job.
    Tells-through _ _ _ (
    run-named c.args.end job c.args.tokens.now c.in_ok-name.rest.now c.in_ok-name.name source_name c.in_ok-name.ensures.front
    ∙ run-expected c.args.end job c.in_ok-name.rest.now c.in_ok-text.rest.now c.in_ok-text.text (source_file name) c.in_ok-text.ensures.front)
    (c.in_err-rate.ensures.sources (job, name, file)))

pub returns-in_err-slack-clause-run : goal.returns-in_err-slack-clause-run
returns-in_err-slack-clause-run c =
    let name = c.in_ok-name.name in
    let file = span_of c.in_ok-text.text in
    let p = err_from_is_err_and c.from_residual-in_err-slack.result c.from_residual-in_err-slack.ensures.1 in
    rw (p.1, p.2) (λ job.
    Tells-through _ _ _ (
    run-named c.args.end job c.args.tokens.now c.in_ok-name.rest.now c.in_ok-name.name source_name c.in_ok-name.ensures.front
    ∙ run-expected c.args.end job c.in_ok-name.rest.now c.in_ok-text.rest.now c.in_ok-text.text (source_file name) c.in_ok-text.ensures.front
    ∙ c.in_ok-rate.ensures.sources (job, name, file)) (c.in_err-slack.ensures.run (job, name, file, c.in_ok-rate.rate)))

pub returns-in_err-rest-clause-run : goal.returns-in_err-rest-clause-run
returns-in_err-rest-clause-run c =
    let name = c.in_ok-name.name in
    let file = span_of c.in_ok-text.text in
    let colon = source_colon name file c.in_ok-rate.rate c.in_ok-slack.slack in
    let p = err_from_is_err_and c.from_residual-in_err-rest.result c.from_residual-in_err-rest.ensures.1 in
    rw (p.1, p.2) (λ job.
    tells _ _ _ c.in_err-rest.ensures.front.0 (
    run-named c.args.end job c.args.tokens.now c.in_ok-name.rest.now c.in_ok-name.name source_name c.in_ok-name.ensures.front
    ∙ run-expected c.args.end job c.in_ok-name.rest.now c.in_ok-text.rest.now c.in_ok-text.text (source_file name) c.in_ok-text.ensures.front
    ∙ c.in_ok-rate.ensures.sources (job, name, file)
    ∙ c.in_ok-slack.ensures.run (job, name, file, c.in_ok-rate.rate)
    ∙ run-unexpected c.args.end job c.in_ok-slack.rest.now colon c.in_err-rest.ensures.front.1))

pub returns-in_err-tags-clause-run : goal.returns-in_err-tags-clause-run
returns-in_err-tags-clause-run c =
    let name = c.in_ok-name.name in
    let file = span_of c.in_ok-text.text in
    let colon = source_colon name file c.in_ok-rate.rate c.in_ok-slack.slack in
    let p = err_from_is_err_and c.from_residual-in_err-tags.result c.from_residual-in_err-tags.ensures.1 in
    rw (p.1, p.2) (λ job.
    let head : Head = record { before = job; name = name; file = file; rate = c.in_ok-rate.rate; slack = c.in_ok-slack.slack } in
    Tells-through _ _ _ (
    run-named c.args.end job c.args.tokens.now c.in_ok-name.rest.now c.in_ok-name.name source_name c.in_ok-name.ensures.front
    ∙ run-expected c.args.end job c.in_ok-name.rest.now c.in_ok-text.rest.now c.in_ok-text.text (source_file name) c.in_ok-text.ensures.front
    ∙ c.in_ok-rate.ensures.sources (job, name, file)
    ∙ c.in_ok-slack.ensures.run (job, name, file, c.in_ok-rate.rate)
    ∙ run-expected c.args.end job c.in_ok-slack.rest.now c.in_ok-rest.rest.now c.in_ok-rest.field-0-0 colon c.in_ok-rest.ensures.front)
    (c.in_err-tags.ensures.run head))

pub returns-clause-run : goal.returns-clause-run
returns-clause-run c =
    let name = c.in_ok-name.name in
    let file = span_of c.in_ok-text.text in
    let colon = source_colon name file c.in_ok-rate.rate c.in_ok-slack.slack in
    λ job.
    let head : Head = record { before = job; name = name; file = file; rate = c.in_ok-rate.rate; slack = c.in_ok-slack.slack } in
    rw c.span_of-file.ensures (
    run-named c.args.end job c.args.tokens.now c.in_ok-name.rest.now c.in_ok-name.name source_name c.in_ok-name.ensures.front
    ∙ run-expected c.args.end job c.in_ok-name.rest.now c.in_ok-text.rest.now c.in_ok-text.text (source_file name) c.in_ok-text.ensures.front
    ∙ c.in_ok-rate.ensures.sources (job, name, file)
    ∙ c.in_ok-slack.ensures.run (job, name, file, c.in_ok-rate.rate)
    ∙ run-expected c.args.end job c.in_ok-slack.rest.now c.in_ok-rest.rest.now c.in_ok-rest.field-0-0 colon c.in_ok-rest.ensures.front
    ∙ c.in_ok-tags.ensures.run head)
