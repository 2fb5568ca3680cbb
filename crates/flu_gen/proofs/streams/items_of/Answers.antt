use Rattle.std.proofs.Common.{◌<◌, length, arith}
use Rattle.std.proofs.lemmas.Grind.{common_steps}
use Rattle.flu_gen.proofs.Drawing.{own_pushed}
use Rattle.flu_gen.proofs.streams.items_of.Goals as goal

pub loop-event-preserved : goal.loop-event-preserved
loop-event-preserved c =
    let k = c.loop-event.event-index in
    let within : k < length c.args.events.now = grind (arith, common_steps) in
    let step = own_pushed c.args.itag c.args.events.now k _ _ _ within c.in_ok-push_own.ensures c.loop-event.invariant in
    step (grind (arith, common_steps))
