use Rattle.std.proofs.Common.{◌≡◌, ◌++◌, ◌∷◌, ◌<◌, ◌≤◌, [], length, sym, ap, subst, ◌∙◌, arith}
use Rattle.std.specs.Prelude.{reverse}
use Rattle.std.proofs.lemmas.Grind.{common_steps}
use Rattle.flu_plan.specs.Shape.{visit, kids_at, with_visits}
use Rattle.flu_plan.proofs.ShapeLemmas.{Walked, walked-start, walked-depth, walked-next, walked-full, walked-end, reverse_last, preorder-few}
use Rattle.flu_plan.proofs.shape.preorder.Goals as goal

pub walk-init : goal.walk-init
walk-init c =
    let items : c.push.new.self.items ≡ visit 0 0 ∷ [] = grind (arith, common_steps) in
    walked-start c.args.nodes.now c.new-order.result.items (reverse c.push.new.self.items) c.new-order.ensures.items (ap reverse items)

pub walk-preserved : goal.walk-preserved
walk-preserved c =
    let nodes = c.args.nodes.now in
    let x = c.in-Some.visit in
    let top : Walked nodes c.walk.order.items (x ∷ reverse c.pop.new.self.items) = subst (λ w. Walked nodes c.walk.order.items w)
    (reverse_last c.walk.stack.items c.pop.new.self.items x c.in-Some.ensures.items) c.walk.invariant in
    let items : c.push-in-walk.new.self.items ≡ c.walk.order.items ++ x ∷ [] = grind (arith, common_steps) in
    let wanted : with_visits x.depth (kids_at nodes x.node) (reverse c.pop.new.self.items) ≡ reverse c.want.new.stack.items = sym (c.in_ok-want.ensures
    ∙ ap (λ k. with_visits x.depth k (reverse c.pop.new.self.items)) c.kids_at.ensures) in
    let room : length c.walk.order.items < length nodes = grind (arith, common_steps) in
    subst (λ o. Walked nodes o (reverse c.want.new.stack.items)) (sym items)
    (subst (λ w. Walked nodes (c.walk.order.items ++ x ∷ []) w) wanted (walked-next nodes c.walk.order.items (reverse c.pop.new.self.items) x room top))

pub want-requires : goal.want-requires
want-requires c =
    let nodes = c.args.nodes.now in
    let x = c.in-Some.visit in
    let top : Walked nodes c.walk.order.items (x ∷ reverse c.pop.new.self.items) = subst (λ w. Walked nodes c.walk.order.items w)
    (reverse_last c.walk.stack.items c.pop.new.self.items x c.in-Some.ensures.items) c.walk.invariant in
    let deep : x.depth ≤ length c.walk.order.items = walked-depth nodes c.walk.order.items (reverse c.pop.new.self.items) x top in
    grind (arith, common_steps)

pub returns-clause-order : goal.returns-clause-order
returns-clause-order c =
    let full : length c.args.nodes.now ≤ length c.walk.order.items = grind (arith, common_steps) in
    walked-full c.args.nodes.now c.walk.order.items (reverse c.walk.stack.items) full c.walk.invariant

pub returns-clause-few : goal.returns-clause-few
returns-clause-few c = preorder-few c.args.nodes.now c.walk.order.items (returns-clause-order c)

pub returns-in_default-clause-order : goal.returns-in_default-clause-order
returns-in_default-clause-order c =
    let none : c.walk.stack.items ≡ [] = grind (arith, common_steps) in
    walked-end c.args.nodes.now c.walk.order.items (reverse c.walk.stack.items) (ap reverse none) c.walk.invariant

pub returns-in_default-clause-few : goal.returns-in_default-clause-few
returns-in_default-clause-few c = preorder-few c.args.nodes.now c.walk.order.items (returns-in_default-clause-order c)
