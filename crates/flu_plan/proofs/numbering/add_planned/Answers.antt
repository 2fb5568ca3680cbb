use Rattle.flu_plan.specs.Limits.{keys_of_node}
use Rattle.flu_lemmas.proofs.Loops.{each-got}
use Rattle.flu_plan.proofs.numbering.add_planned.Goals as goal

pub planned_node-requires-clause-keys : goal.planned_node-requires-clause-keys
planned_node-requires-clause-keys c = each-got keys_of_node c.args.nodes.now c.args.visit.node c.in-Some.node.now c.requires.keys c.in-Some.ensures
