use Rattle.flu_net.proofs.Bringing.{leaf_all}
use Rattle.flu_net.proofs.joining.leaf_lot.Goals as goal

pub returns : goal.returns
returns c = leaf_all c.laws_below.ensures c.args.worker c.in-Some.lot c.requires.end c.rule.ensures c.requires.leaf c.in-Some.ensures.lot
