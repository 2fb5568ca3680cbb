use Rattle.std.proofs.Common.{ap, arith}
use Rattle.std.specs.Prelude.{◌==◌, ◌||◌}
use Rattle.std.specs.List.{list_any}
use Rattle.flu_plan.specs.Shape.{is_met}
use Rattle.std.proofs.lemmas.List.{get_or_default}
use Rattle.flu_plan.proofs.ShapeLemmas.{met-next, met-end}
use Rattle.flu_plan.proofs.shape.met.Goals as goal

pub loop-visit-init : goal.loop-visit-init
loop-visit-init c = λ v. ap (λ ks. list_any (λ u. v == u) ks || is_met c.args.order.now v) c.new-found.ensures.empty

pub loop-visit-preserved : goal.loop-visit-preserved
loop-visit-preserved c = λ v. met-next c.loop-visit.found.keys c.insert.new.self.keys c.args.order.now c.loop-visit.visit-index v _ c.loop-visit-test.true
    (get_or_default c.args.order.now c.loop-visit.visit-index _ _ c.loop-visit-test.true) c.in-Ok.ensures.keys (c.loop-visit.invariant v)

pub returns-clause-ok : goal.returns-clause-ok
returns-clause-ok c = λ v. met-end c.loop-visit.found.keys c.args.order.now c.loop-visit.visit-index v (omega arith) (c.loop-visit.invariant v)
