use Rattle.std.proofs.Common.{◌≡◌, ◌∙◌, ◌+◌, true, length, Ok, sym, ap, arith}
use Rattle.flu_plan.specs.declared.fault.PlanFault.TheVariants as f
use Rattle.flu_plan.specs.Faults.{unless}
use Rattle.flu_plan.specs.Shape.{is_met, below, all_below}
use Rattle.flu_plan.proofs.FaultLemmas.{fails_through}
use Rattle.flu_lemmas.proofs.Loops.{each-next, each-fault, each-end}
use Rattle.flu_plan.proofs.ShapeLemmas.{below-met, below-fault}
use Rattle.flu_plan.proofs.shape.all_below.Goals as goal

pub returns-in-Err : goal.returns-in-Err
returns-in-Err c =
    let text = c.args.text.now in
    let order = c.args.order.now in
    let nodes = c.args.nodes.now in
    let v = c.loop-v.v in
    let node = c.index-nodes-v.result in
    let met : c.is_child.result ≡ is_met order v = c.is_child.ensures ∙ c.in_ok-found.ensures.ok v in
    fails_through _ (unless c.is_child.result (f.NotATree c.name_of.result.now)) (all_below text order nodes)
    (λ e h. sym c.loop-v.invariant
    ∙ each-fault (below text order) v e nodes v node c.loop-v-test.true c.index-nodes-v.is
    (below-fault text c.name_of.result.now order v node e c.is_child.result met c.name_of.ensures h))
    c.in-Err.ensures.found

pub loop-v-preserved : goal.loop-v-preserved
loop-v-preserved c =
    let text = c.args.text.now in
    let order = c.args.order.now in
    let nodes = c.args.nodes.now in
    let v = c.loop-v.v in
    let node = c.index-nodes-v.result in
    let met : is_met order v ≡ true = sym (c.is_child.ensures ∙ c.in_ok-found.ensures.ok v) ∙ c.in-Ok.ensures.passed in
    sym (each-next (below text order) v (v + 1) nodes v node c.loop-v-test.true c.index-nodes-v.is (below-met text order v node met))
    ∙ c.loop-v.invariant

pub returns : goal.returns
returns c =
    let text = c.args.text.now in
    let order = c.args.order.now in
    let nodes = c.args.nodes.now in
    let v = c.loop-v.v in
    let last : v ≡ length nodes = omega arith in
    sym c.loop-v.invariant ∙ each-end (below text order) v nodes v (omega arith) ∙ ap Ok last
