use Rattle.flu_joining.proofs.Apart.{sent_used_up}
use Rattle.flu_joining.proofs.laws.what_is_sent_is_used_up.Goals as goal

pub returns : goal.returns
returns c = sent_used_up c.plans_are_trees.ensures.order c.itags_are_owned.ensures c.contributions_have_places.ensures
