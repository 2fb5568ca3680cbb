use Rattle.std.proofs.Common.{◌≡◌, ◌+◌, ◌-◌, ◌*◌, ◌/◌, sym, ap, subst, arith}
use Rattle.flu_moments.specs.Clocks.{IsNextTick, AreBetween}
use Rattle.flu_moments.proofs.BetweenLemmas.{last_step_before, end_within, none_between, steps_between_moments}
use Rattle.flu_moments.proofs.NextLemmas.{next_tick_is}
use Rattle.flu_moments.proofs.moments.Moments.ticks_between.Goals as goal

pub new-requires-then-from-end : goal.new-requires-then-from-end
new-requires-then-from-end c = λ some.
    let m = c.args.self in
    let end = c.first_time-end.result in
    let early = end_within m.sources m.ties c.args.clock c.args.high end m.has_a_source m.has_a_place c.first_time-end.ensures in
    let before = last_step_before c.in-Some.from end c.args.every c.if-from-end.true c.requires.every in
    let small = c.requires.high in
    let count : (end - 1 - c.in-Some.from) / c.args.every + 1 - 1 ≡ (end - 1 - c.in-Some.from) / c.args.every = omega arith in
    let product = ap (λ n. n * c.args.every) count in
    omega arith

pub returns-then-from-end : goal.returns-then-from-end
returns-then-from-end c =
    let m = c.args.self in
    let end = c.first_time-end.result in
    let next = next_tick_is m.sources m.ties c.args.every c.args.clock c.args.low c.first_time.result c.requires.every c.first_time.ensures in
    let from : IsNextTick m.sources m.ties c.args.every c.args.clock c.args.low c.in-Some.from =
    subst (IsNextTick m.sources m.ties c.args.every c.args.clock c.args.low) (sym c.in-Some.ensures.1) next in
    subst (AreBetween m.sources m.ties c.args.every c.args.clock c.args.low c.args.high) (sym c.new-then-from-end.ensures)
    (steps_between_moments m.sources m.ties c.args.every c.args.clock c.args.low c.args.high c.in-Some.from end c.requires.every from c.first_time-end.ensures
    c.if-from-end.true)

pub returns-else-from-end : goal.returns-else-from-end
returns-else-from-end c =
    let m = c.args.self in
    let end = c.first_time-end.result in
    let next = next_tick_is m.sources m.ties c.args.every c.args.clock c.args.low c.first_time.result c.requires.every c.first_time.ensures in
    let from : IsNextTick m.sources m.ties c.args.every c.args.clock c.args.low c.in-Some.from =
    subst (IsNextTick m.sources m.ties c.args.every c.args.clock c.args.low) (sym c.in-Some.ensures.1) next in
    subst (AreBetween m.sources m.ties c.args.every c.args.clock c.args.low c.args.high) (sym c.new-else-from-end.ensures)
    (none_between m.sources m.ties c.args.every c.args.clock c.args.low c.args.high c.in-Some.from end from c.first_time-end.ensures
    (let late = c.if-from-end.false in omega arith))
