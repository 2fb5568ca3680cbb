use Rattle.std.proofs.Common.{◌∙◌}
use Rattle.std.proofs.lemmas.Result.{err_from_is_err_and}
use Rattle.flu_text.specs.declared.words.Word.TheVariants as w
use Rattle.flu_names.specs.declared.reserved.Reserved.TheVariants as r
use Rattle.flu_syntax.specs.Machine.{SourceSlack, SlackNumber}
use Rattle.flu_syntax.proofs.Parts.{tells, run-word, run-passed, run-number, run-no_number, source_slack, source_prompt, slack_number}
use Rattle.flu_syntax.proofs.declarations.slack.Goals as goal

pub returns-in_default-clause-run : goal.returns-in_default-clause-run
returns-in_default-clause-run c = λ here. run-passed c.args.end here.0 c.args.tokens.now (source_prompt here.1 here.2 here.3) c.in_default.ensures.front

pub returns-in_err-slack-clause-run : goal.returns-in_err-slack-clause-run
returns-in_err-slack-clause-run c =
    let p = err_from_is_err_and c.from_residual.result c.from_residual.ensures.1 in
    rw (p.1, p.2) (λ here. tells _ _ _ c.in_err-slack.ensures.front.0
    (run-word c.args.end here.0 (SourceSlack here.1 here.2 here.3) (SlackNumber here.1 here.2 here.3) (w.Reserved r.Slack) c.args.tokens.now
    c.in-Some.rest.now c.in-Some.field-0-0 (source_slack here.1 here.2 here.3) c.in-Some.ensures.front
    ∙ run-no_number c.args.end here.0 c.in-Some.rest.now (slack_number here.1 here.2 here.3) c.in_err-slack.ensures.front.1))

pub returns-clause-run : goal.returns-clause-run
returns-clause-run c = λ here. run-word c.args.end here.0 (SourceSlack here.1 here.2 here.3) (SlackNumber here.1 here.2 here.3) (w.Reserved r.Slack)
    c.args.tokens.now c.in-Some.rest.now c.in-Some.field-0-0 (source_slack here.1 here.2 here.3) c.in-Some.ensures.front
    ∙ run-number c.args.end here.0 c.in-Some.rest.now c.in_ok-slack.rest.now c.in_ok-slack.slack (slack_number here.1 here.2 here.3)
    c.in_ok-slack.ensures.front
