use Rattle.std.proofs.Common.{◌≡◌, ◌+◌, ap}
use Rattle.flu_gen.proofs.Drawing.{tick_pushed}
use Rattle.flu_gen.proofs.streams.tick_items.Goals as goal

pub loop-turn-preserved : goal.loop-turn-preserved
loop-turn-preserved c =
    let turn = c.loop-turn.turn in
    let same : c.from.result ≡ turn = cc in
    tick_pushed turn (c.from.result + 1) c.args.clock _ _ (ap (λ t. t + 1) same) c.requires c.in_ok-push_tick.ensures c.loop-turn.invariant
