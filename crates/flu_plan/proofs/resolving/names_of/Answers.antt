use Rattle.std.proofs.Common.{◌∙◌, map, sym, arith}
use Rattle.flu_plan.specs.Resolving.{with_name, names_of}
use Rattle.flu_plan.proofs.FaultLemmas.{fails_through}
use Rattle.flu_lemmas.proofs.Loops.{each-next, each-fault, each-end}
use Rattle.flu_plan.proofs.resolving.names_of.Goals as goal

pub returns-in-Err : goal.returns-in-Err
returns-in-Err c =
    let text = c.args.text.now in
    let names = map (λ k. k.now) c.loop-node.names.keys in
    fails_through _ _ (names_of text c.args.written.now)
    (λ e h. sym c.loop-node.invariant
    ∙ each-fault (with_name text) names e c.args.written.now c.loop-node.node-index c.node-item.result c.loop-node-test.true c.node-item.is h)
    c.in-Err.ensures

pub loop-node-preserved : goal.loop-node-preserved
loop-node-preserved c =
    let text = c.args.text.now in
    let names = map (λ k. k.now) c.loop-node.names.keys in
    sym (each-next (with_name text) names (map (λ k. k.now) c.declare.new.names.keys) c.args.written.now c.loop-node.node-index c.node-item.result
    c.loop-node-test.true c.node-item.is c.in-Ok.ensures)
    ∙ c.loop-node.invariant

pub returns : goal.returns
returns c =
    sym c.loop-node.invariant
    ∙ each-end (with_name c.args.text.now) (map (λ k. k.now) c.loop-node.names.keys) c.args.written.now c.loop-node.node-index (omega arith)
