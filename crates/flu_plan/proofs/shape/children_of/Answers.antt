use Rattle.std.proofs.Common.{◌∙◌, sym, arith}
use Rattle.flu_plan.specs.Shape.{with_kids, children_of}
use Rattle.flu_plan.proofs.FaultLemmas.{fails_through}
use Rattle.flu_lemmas.proofs.Loops.{each-next, each-fault, each-end}
use Rattle.flu_plan.proofs.shape.children_of.Goals as goal

pub returns-in-Err : goal.returns-in-Err
returns-in-Err c =
    let text = c.args.text.now in
    let nodes = c.args.nodes.now in
    fails_through _ _ (children_of text nodes)
    (λ e h. sym c.loop-node.invariant
    ∙ each-fault (with_kids text nodes) c.loop-node.children.keys e nodes c.loop-node.node-index c.node-item.result c.loop-node-test.true c.node-item.is h)
    c.in-Err.ensures

pub loop-node-preserved : goal.loop-node-preserved
loop-node-preserved c =
    let text = c.args.text.now in
    let nodes = c.args.nodes.now in
    sym (each-next (with_kids text nodes) c.loop-node.children.keys c.note_kids.new.children.keys nodes c.loop-node.node-index c.node-item.result
    c.loop-node-test.true c.node-item.is c.in-Ok.ensures)
    ∙ c.loop-node.invariant

pub returns : goal.returns
returns c =
    sym c.loop-node.invariant
    ∙ each-end (with_kids c.args.text.now c.args.nodes.now) c.loop-node.children.keys c.args.nodes.now c.loop-node.node-index (omega arith)
