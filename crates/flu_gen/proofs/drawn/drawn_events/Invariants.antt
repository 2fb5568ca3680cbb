use Rattle.std.proofs.Common.{◌≡◌, ◌<◌, ◌^◌, map}
use Rattle.std.specs.List.{range_with_len}
use Rattle.flu_gen.specs.DemoStreams.{number_after, draw_for, drawn_event}
use Rattle.flu_gen.proofs.drawn.drawn_events.Given as goal

abbrev pub invariant-loop-turn : goal.invariant-loop-turn
invariant-loop-turn l = record {
  number : l.number ≡ number_after l.seed l.turn;
  small : l.number < 2 ^ 31;
  events : l.events.items ≡ map (λ time. drawn_event time (draw_for l.seed time)) (range_with_len 1 l.turn);
}
