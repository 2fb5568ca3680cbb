use Rattle.flu_joining.proofs.Alike.{queues_join_alike}
use Rattle.flu_joining.proofs.laws.alike_queues_join_alike.Goals as goal

pub returns : goal.returns
returns c = queues_join_alike c.alike_contributions_join_alike.ensures c.alike_outputs_have_one_report.ensures
