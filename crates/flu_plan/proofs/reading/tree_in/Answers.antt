use Rattle.std.proofs.Common.{◌≤◌, length, ap, arith}
use Rattle.flu_plan.proofs.LimitLemmas.{within}
use Rattle.flu_plan.proofs.reading.tree_in.Goals as goal

pub planned-requires-clause-keys : goal.planned-requires-clause-keys
planned-requires-clause-keys c = (within _ c.args.nodes.now c.in_ok-within_limits.ensures).keys

pub planned-requires-clause-few : goal.planned-requires-clause-few
planned-requires-clause-few c =
    let most : length c.args.nodes.now ≤ 127 = (within _ c.args.nodes.now c.in_ok-within_limits.ensures).few_nodes in
    let same = ap length c.as_slice-3.ensures.value in
    let few = c.in_ok-order.ensures.few in
    omega arith
