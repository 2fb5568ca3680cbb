use Rattle.std.proofs.Common.{◌∙◌, ◌+◌, ◌++◌, drop, ap, sym, arith}
use Rattle.std.specs.List.{flat_map}
use Rattle.flu_plan.specs.Numbering.{planned_at}
use Rattle.flu_plan.proofs.NumberingLemmas.{lists-next, lists-end}
use Rattle.flu_plan.proofs.numbering.planned.Goals as goal

pub loop-visit-preserved : goal.loop-visit-preserved
loop-visit-preserved c =
    let list = planned_at c.args.text.now c.args.order.now c.args.nodes.now in
    let i = c.loop-visit.visit-index in
    ap (λ done. done ++ flat_map list (drop (i + 1) c.args.order.now)) c.in_ok-add_planned.ensures
    ∙ lists-next list c.loop-visit.plan.items c.args.order.now i _ c.loop-visit-test.true
    ∙ c.loop-visit.invariant

pub returns : goal.returns
returns c =
    let list = planned_at c.args.text.now c.args.order.now c.args.nodes.now in
    sym (lists-end list c.loop-visit.plan.items c.args.order.now c.loop-visit.visit-index (omega arith)) ∙ c.loop-visit.invariant
