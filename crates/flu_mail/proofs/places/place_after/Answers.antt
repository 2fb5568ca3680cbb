use Rattle.std.proofs.Common.{arith}
use Rattle.flu_mail.proofs.PlaceLemmas.{place_there, place_after_one}
use Rattle.flu_mail.proofs.places.place_after.Goals as goal

pub overflow_add-place : goal.overflow_add-place
overflow_add-place c =
    let within = place_there c.args.items.now c.loop-counted._counted (omega arith) in
    let at = c.loop-counted.invariant in
    omega arith

pub first_event-place-requires : goal.first_event-place-requires
first_event-place-requires c =
    let within = place_there c.args.items.now c.loop-counted._counted (omega arith) in
    let at = c.loop-counted.invariant in
    omega arith

pub loop-counted-preserved : goal.loop-counted-preserved
loop-counted-preserved c =
    place_after_one c.args.items.now c.loop-counted._counted c.loop-counted.place c.first_event-place.result
    (omega arith) c.loop-counted.invariant c.first_event-place.ensures
