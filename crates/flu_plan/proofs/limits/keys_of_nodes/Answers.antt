use Rattle.std.proofs.Common.{◌∙◌, sym, arith}
use Rattle.flu_plan.specs.Faults.{each}
use Rattle.flu_plan.specs.Limits.{keys_of_node}
use Rattle.flu_plan.proofs.FaultLemmas.{fails_through}
use Rattle.flu_lemmas.proofs.Loops.{each-next, each-fault, each-end}
use Rattle.flu_plan.proofs.limits.keys_of_nodes.Goals as goal

pub returns-in-Err : goal.returns-in-Err
returns-in-Err c =
    fails_through _ _ (each keys_of_node tt c.args.nodes.now)
    (λ e h. sym c.loop-node.invariant
    ∙ each-fault keys_of_node tt e c.args.nodes.now c.loop-node.node-index c.node-item.result c.loop-node-test.true c.node-item.is h)
    c.in-Err.ensures

pub loop-node-preserved : goal.loop-node-preserved
loop-node-preserved c =
    sym (each-next keys_of_node tt tt c.args.nodes.now c.loop-node.node-index c.node-item.result c.loop-node-test.true c.node-item.is c.in-Ok.ensures)
    ∙ c.loop-node.invariant

pub returns : goal.returns
returns c = sym c.loop-node.invariant ∙ each-end keys_of_node tt c.args.nodes.now c.loop-node.node-index (omega arith)
