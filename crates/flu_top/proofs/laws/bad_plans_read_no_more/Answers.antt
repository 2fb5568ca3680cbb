use Rattle.flu_top.proofs.Unreads.{unread_law}
use Rattle.flu_top.proofs.laws.bad_plans_read_no_more.Goals as goal

pub returns : goal.returns
returns c = unread_law c.plans_fit_each.ensures
