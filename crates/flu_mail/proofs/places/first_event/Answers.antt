use Rattle.std.proofs.Common.{sym, ◌∙◌, arith}
use Rattle.flu_mail.proofs.PlaceLemmas.{event_here, event_behind, none_behind}
use Rattle.flu_mail.proofs.places.first_event.Goals as goal

pub returns-then-is_event : goal.returns-then-is_event
returns-then-is_event c =
    let here = event_here c.args.items.now c.loop-place.place _ c.loop-place-test.true (sym c.is_event.ensures ∙ c.if-is_event.true) in
    omega (arith, c.loop-place.invariant)

pub loop-place-preserved : goal.loop-place-preserved
loop-place-preserved c =
    let behind = event_behind c.args.items.now c.loop-place.place _ c.loop-place-test.true (sym c.is_event.ensures ∙ c.if-is_event.false) in
    omega (arith, c.loop-place.invariant)

pub returns : goal.returns
returns c =
    let none = none_behind c.args.items.now c.loop-place.place c.loop-place-test.false in
    omega (arith, c.loop-place.invariant)
