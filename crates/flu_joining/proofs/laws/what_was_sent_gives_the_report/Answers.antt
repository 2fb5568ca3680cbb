use Rattle.flu_joining.proofs.Alike.{alike_report}
use Rattle.flu_joining.proofs.laws.what_was_sent_gives_the_report.Goals as goal

pub returns : goal.returns
returns c = alike_report c.parts_give_the_report.ensures c.parts_are_used_up.ensures c.alike_queues_join_alike.ensures
