use Rattle.flu_text.proofs.Spans.{each_is_token, each_is_span, each_is_inside, tokens_rise}
use Rattle.flu_text.proofs.laws.tokens_stand.Goals as goal

pub returns-clause-each : goal.returns-clause-each
returns-clause-each c = each_is_token

pub returns-clause-spans : goal.returns-clause-spans
returns-clause-spans c = each_is_span

pub returns-clause-inside : goal.returns-clause-inside
returns-clause-inside c = each_is_inside

pub returns-clause-rise : goal.returns-clause-rise
returns-clause-rise c = tokens_rise
