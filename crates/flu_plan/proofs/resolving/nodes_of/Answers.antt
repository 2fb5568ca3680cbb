use Rattle.std.proofs.Common.{◌≡◌, ◌∙◌, ◌++◌, ◌∷◌, [], map, sym, arith}
use Rattle.std.proofs.lemmas.Grind.{common_steps}
use Rattle.flu_plan.specs.Resolving.{node_of, nodes_of}
use Rattle.flu_plan.proofs.FaultLemmas.{fails_through}
use Rattle.flu_lemmas.proofs.Loops.{each-next, each-fault, each-end, collect, collects, collect-fault}
use Rattle.flu_plan.proofs.resolving.nodes_of.Goals as goal

pub returns-in-Err : goal.returns-in-Err
returns-in-Err c =
    let names = map (λ k. k.now) c.args.names.now.keys in
    let find = node_of c.args.p.now c.args.text.now names in
    fails_through _ _ (nodes_of c.args.p.now c.args.text.now names c.args.written.now)
    (λ e h. sym c.loop-node.invariant
    ∙ each-fault (collect find) c.loop-node.found.items e c.args.written.now c.loop-node.node-index c.node-item.result c.loop-node-test.true
    c.node-item.is (collect-fault find c.loop-node.found.items c.node-item.result e h))
    c.in-Err.ensures

pub loop-node-preserved : goal.loop-node-preserved
loop-node-preserved c =
    let find = node_of c.args.p.now c.args.text.now (map (λ k. k.now) c.args.names.now.keys) in
    let done = c.loop-node.found.items in
    let items : c.push.new.self.items ≡ done ++ c.in-Ok.node ∷ [] = grind (arith, common_steps) in
    rw items
    (sym (each-next (collect find) done (done ++ c.in-Ok.node ∷ []) c.args.written.now c.loop-node.node-index c.node-item.result c.loop-node-test.true
    c.node-item.is (collects find done c.node-item.result c.in-Ok.node c.in-Ok.ensures))
    ∙ c.loop-node.invariant)

pub returns : goal.returns
returns c =
    sym c.loop-node.invariant
    ∙ each-end (collect (node_of c.args.p.now c.args.text.now (map (λ k. k.now) c.args.names.now.keys))) c.loop-node.found.items c.args.written.now
    c.loop-node.node-index (omega arith)
