use Rattle.std.proofs.Common.{◌≡◌, [], ◌<◌, true, false, length, get_or, sym, ap, ◌∙◌, arith}
use Rattle.std.proofs.lemmas.Bool.{cond-true, cond-false}
use Rattle.std.proofs.lemmas.List.{at_drop_all, get_or_read}
use Rattle.flu_planner.specs.Groups.{grouped, goes_left}
use Rattle.flu_planner.proofs.Cutting.{grouped_more}
use Rattle.flu_planner.proofs.groups.grouped.Goals as goal
use Rattle.flu_planner.proofs.groups.grouped.Goals.{then-goes_left+in_ok-extend_from_slice, else-goes_left+in_ok-extend_from_slice-2}

pub loop-component-preserved : goal.loop-component-preserved
loop-component-preserved c =
    let rates = c.args.rates.now in
    let left = c.loop-component.left.items in
    let right = c.loop-component.right.items in
    let components = c.args.components.now in
    let i = c.loop-component.component-index in
    let within : i < length components = omega arith in
    let step = grouped_more rates left right components i [] within in
    elim c.if-goes_left.branch [
      | then-goes_left+in_ok-extend_from_slice w ↦
          (let test : goes_left rates left right ≡ true = sym (rw (c.deref.ensures.value, c.deref-in-loop-component.ensures.value) at w.if-goes_left.ensures) in
          let component : w.items.result.now ≡ get_or components i [] = w.items.ensures
          ∙ get_or_read components i c.component-item.result within c.component-item.is [] in
          rw (w.left-is, w.right-is, w.in_ok-extend_from_slice.ensures.items, component) (sym (step ∙ cond-true _ _ _ test) ∙ c.loop-component.invariant))
      | else-goes_left+in_ok-extend_from_slice-2 w ↦
          (let test : goes_left rates left right ≡ false =
          sym (rw (c.deref.ensures.value, c.deref-in-loop-component.ensures.value) at w.if-goes_left.ensures) in
          let component : w.items-else-goes_left.result.now ≡ get_or components i [] = w.items-else-goes_left.ensures
          ∙ get_or_read components i c.component-item.result within c.component-item.is [] in
          rw (w.left-is, w.right-is, w.in_ok-extend_from_slice-2.ensures.items, component) (sym (step ∙ cond-false _ _ _ test) ∙ c.loop-component.invariant))
    ]

pub returns-clause-left : goal.returns-clause-left
returns-clause-left c =
    ap (λ groups. groups.0) (sym (at_drop_all
    (grouped c.args.rates.now c.loop-component.left.items c.loop-component.right.items) c.args.components.now c.loop-component.component-index
    (omega arith)) ∙ c.loop-component.invariant)

pub returns-clause-right : goal.returns-clause-right
returns-clause-right c =
    ap (λ groups. groups.1) (sym (at_drop_all
    (grouped c.args.rates.now c.loop-component.left.items c.loop-component.right.items) c.args.components.now c.loop-component.component-index
    (omega arith)) ∙ c.loop-component.invariant)
