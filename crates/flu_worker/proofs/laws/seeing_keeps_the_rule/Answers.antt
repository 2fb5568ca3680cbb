use Rattle.flu_worker.proofs.Telling.{rule_seen}
use Rattle.flu_worker.proofs.laws.seeing_keeps_the_rule.Goals as goal

pub returns : goal.returns
returns c = rule_seen
