use Rattle.std.proofs.Common.{◌≡◌, ◌+◌, ap, ◌∙◌}
use Rattle.flu_gen.specs.DemoStreams.{number_after}
use Rattle.flu_gen.proofs.Drawing.{number_more, drawn_pushed}
use Rattle.flu_gen.proofs.drawn.drawn_events.Goals as goal

pub loop-turn-preserved : goal.loop-turn-preserved
loop-turn-preserved c =
    let turn = c.loop-turn.turn in
    let seed = c.args.seed in
    let number : c.next_draw-number.result ≡ number_after seed (turn + 1) =
    c.next_draw-number.ensures.value ∙ number_more seed turn c.loop-turn.number c.loop-turn.invariant.number in
    let same : c.from.result ≡ turn = cc in
    record {
      number = number;
      small = c.next_draw-number.ensures.small;
      events = drawn_pushed seed turn _ _ _ _ _ _ c.in_ok-push.ensures.items c.drawn_event-event.ensures c.draw_of.ensures.value number
          (ap (λ t. t + 1) same) c.loop-turn.invariant.events;
    }
