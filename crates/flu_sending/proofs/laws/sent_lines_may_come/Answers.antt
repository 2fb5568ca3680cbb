use Rattle.flu_sending.proofs.Orders.{lines_may_come}
use Rattle.flu_sending.proofs.laws.sent_lines_may_come.Goals as goal

pub returns : goal.returns
returns c = lines_may_come
