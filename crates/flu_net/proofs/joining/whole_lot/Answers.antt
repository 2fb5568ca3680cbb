use Rattle.std.proofs.Common.{◌≡◌, ◌-◌, ℕ, length, take, sym, ap, subst, ◌∙◌, arith}
use Rattle.flu_deps.specs.declared.valid.Valid.{Valid}
use Rattle.flu_deps.specs.Validated.{plan_of}
use Rattle.flu_fork.specs.Completing.{BringsAll}
use Rattle.flu_net.specs.Ending.{AreBrought}
use Rattle.flu_net.proofs.Bringing.{brought_first, brought_more, parts_there, popped, ok_as}
use Rattle.flu_net.proofs.joining.whole_lot.Goals as goal

pub loop-w-init : goal.loop-w-init
loop-w-init c =
    brought_first c.laws_below.ensures c.args.case.now c.args.workers.items c.args.edges.items c.requires.end c.requires.edges c.count-w.result
    (c.count-w.ensures ∙ ap (λ (v : Valid). length (plan_of v).nodes) c.valid.ensures)

pub lot_at-requires-clause-end : goal.lot_at-requires-clause-end
lot_at-requires-clause-end c =
    let long = c.requires.end.each in
    let inv = c.loop-w.invariant in
    let two = popped c.args.workers.items c.loop-w.workers.items c.pop.new.self.items c.loop-w.w c.in-Some.worker inv.2 inv.0 (let le = inv.1 in
    omega arith) c.in-Some.ensures.items in
    c.requires.end.at (c.loop-w.w - 1) c.in-Some.worker two.1

pub lot_at-requires-clause-parts : goal.lot_at-requires-clause-parts
lot_at-requires-clause-parts c =
    let long = c.requires.end.each in
    let inv = c.loop-w.invariant in
    let two = popped c.args.workers.items c.loop-w.workers.items c.pop.new.self.items c.loop-w.w c.in-Some.worker inv.2 inv.0 (let le = inv.1 in
    omega arith) c.in-Some.ensures.items in
    parts_there c.laws_below.ensures c.args.case.now c.args.workers.items c.requires.end (c.loop-w.w - 1) c.in-Some.worker two.1 c.loop-w.edges.items c.loop-w.w
    (let some = inv.0 in omega arith) inv.3

pub loop-w-preserved : goal.loop-w-preserved
loop-w-preserved c =
    let long = c.requires.end.each in
    let inv = c.loop-w.invariant in
    let le = inv.1 in
    let some = inv.0 in
    let more = c.loop-w-test.true in
    let two =
    popped c.args.workers.items c.loop-w.workers.items c.pop.new.self.items c.loop-w.w c.in-Some.worker inv.2 inv.0 (omega arith) c.in-Some.ensures.items in (
      omega arith,
      omega arith,
      two.0,
      subst (AreBrought c.args.case.now (c.loop-w.w - 1) c.args.workers.items) (sym c.put_up.ensures)
          (brought_more c.laws_below.ensures c.args.case.now c.args.workers.items c.requires.end
          (c.loop-w.w - 1) c.in-Some.worker two.1 c.loop-w.edges.items c.loop-w.w
          (omega arith) inv.3 c.in_ok-lot.lot c.lot_at.new.edges.items
          (omega arith) c.in_ok-lot.ensures.lot c.in_ok-lot.ensures.each c.in_ok-lot.ensures.others),
    )

pub lot_at-requires-2-clause-end : goal.lot_at-requires-2-clause-end
lot_at-requires-2-clause-end c =
    let long = c.requires.end.each in
    let inv = c.loop-w.invariant in
    let some = inv.0 in
    let le = inv.1 in
    let over = c.loop-w-test.false in
    let one : c.loop-w.w ≡ 1 = omega arith in
    let two =
    popped c.args.workers.items c.loop-w.workers.items c.pop-2.new.self.items 1 c.in-Some-pop.root (inv.2 ∙ ap (λ (m : ℕ). take m c.args.workers.items) one)
    (omega arith) (omega arith) c.in-Some-pop.ensures.items in
    c.requires.end.at 0 c.in-Some-pop.root two.1

pub lot_at-requires-2-clause-parts : goal.lot_at-requires-2-clause-parts
lot_at-requires-2-clause-parts c =
    let long = c.requires.end.each in
    let inv = c.loop-w.invariant in
    let some = inv.0 in
    let le = inv.1 in
    let over = c.loop-w-test.false in
    let one : c.loop-w.w ≡ 1 = omega arith in
    let two =
    popped c.args.workers.items c.loop-w.workers.items c.pop-2.new.self.items 1 c.in-Some-pop.root (inv.2 ∙ ap (λ (m : ℕ). take m c.args.workers.items) one)
    (omega arith) (omega arith) c.in-Some-pop.ensures.items in
    parts_there c.laws_below.ensures c.args.case.now c.args.workers.items c.requires.end 0 c.in-Some-pop.root two.1 c.loop-w.edges.items c.loop-w.w
    (omega arith) inv.3

pub returns : goal.returns
returns c =
    let long = c.requires.end.each in
    let inv = c.loop-w.invariant in
    let some = inv.0 in
    let le = inv.1 in
    let over = c.loop-w-test.false in
    let one : c.loop-w.w ≡ 1 = omega arith in
    let two =
    popped c.args.workers.items c.loop-w.workers.items c.pop-2.new.self.items 1 c.in-Some-pop.root (inv.2 ∙ ap (λ (m : ℕ). take m c.args.workers.items) one)
    (omega arith) (omega arith) c.in-Some-pop.ensures.items in
    ok_as c.lot_at-2.result (BringsAll c.args.case.now 0) _ _ (c.requires.end.root c.in-Some-pop.root two.1) c.lot_at-2.ensures.lot
