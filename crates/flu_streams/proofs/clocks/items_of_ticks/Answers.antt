use Rattle.std.proofs.Common.{◌<◌, ◌/◌, ◌^◌, ap, ◌∙◌, arith, subst, ◌++◌}
use Rattle.std.specs.List.{All}
use Rattle.flu_streams.specs.Clocks.{items_of_ticks}
use Rattle.flu_streams.proofs.TickItems.{tick_fits, first_one, other_ones, one_more_tick}
use Rattle.flu_streams.proofs.clocks.items_of_ticks.Goals as goal

pub overflow_mul-time : goal.overflow_mul-time
overflow_mul-time c =
    let all = subst (All (λ time. time < 2 ^ 63 / c.args.timing.scale)) c.in-Some.ensures.some c.loop-time.invariant.1 in
    let fits = tick_fits c.args.timing c.requires.fits c.in-Some.time
    (first_one (λ time. time < 2 ^ 63 / c.args.timing.scale) c.in-Some.time c.next.new.self all) in
    omega (arith, fits)

pub overflow_add-time : goal.overflow_add-time
overflow_add-time c =
    let all = subst (All (λ time. time < 2 ^ 63 / c.args.timing.scale)) c.in-Some.ensures.some c.loop-time.invariant.1 in
    let fits = tick_fits c.args.timing c.requires.fits c.in-Some.time
    (first_one (λ time. time < 2 ^ 63 / c.args.timing.scale) c.in-Some.time c.next.new.self all) in
    omega (arith, fits)

pub loop-time-preserved : goal.loop-time-preserved
loop-time-preserved c =
    let all = subst (All (λ time. time < 2 ^ 63 / c.args.timing.scale)) c.in-Some.ensures.some c.loop-time.invariant.1 in (
      ap (λ items. items ++ items_of_ticks c.args.timing c.args.itag.0 c.next.new.self) c.in_ok-push.ensures.items
          ∙ one_more_tick c.args.timing c.args.itag.0 c.in-Some.time c.next.new.self c.loop-time.left c.loop-time.items.items c.in-Some.ensures.some
          ∙ c.loop-time.invariant.0,
      other_ones (λ time. time < 2 ^ 63 / c.args.timing.scale) c.in-Some.time c.next.new.self all,
    )
