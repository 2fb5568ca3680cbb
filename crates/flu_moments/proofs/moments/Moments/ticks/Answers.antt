use Rattle.std.proofs.Common.{◌≡◌, ℕ, suc, ◌+◌, ◌-◌, ◌/◌, ◌<◌, ap, sym, subst, ◌∙◌, arith}
use Rattle.flu_moments.specs.Clocks.{IsNextTick, IsTicks, steps}
use Rattle.flu_moments.specs.Moments.{greatest_time}
use Rattle.flu_moments.proofs.NextLemmas.{next_tick_exists, none_anyway}
use Rattle.flu_moments.proofs.TickLemmas.{next_tick-rises, steps_between, steps_are_ticks, count_is}
use Rattle.flu_moments.proofs.moments.Moments.ticks.Goals as goal

pub returns-in_err-from-clause-none : goal.returns-in_err-from-clause-none
returns-in_err-from-clause-none c =
    let m = c.args.self in
    let late : (time : ℕ) → IsNextTick m.sources m.ties c.args.every c.args.clock c.args.last time → greatest_time m.sources m.ties < time =
    λ time next.
    let from = next_tick_exists m.sources m.ties c.args.every c.args.clock c.args.first m.has_a_place c.requires.clock c.requires.every in
    let early = next_tick-rises m.sources m.ties c.args.every c.args.clock c.args.first c.args.last from.0 time c.requires.order from.1 next in
    let beyond = c.in_err-from.ensures.none from.0 from.1 in
    omega arith in
    none_anyway c.from_residual.result late

pub returns-clause-some : goal.returns-clause-some
returns-clause-some c = λ rows span.
    let m = c.args.self in
    let from = c.in_ok-from.from in
    let to = c.in_ok-to.to in
    let begin = c.in_ok-from.ensures.some in
    let end = c.in_ok-to.ensures.some in
    let count = steps_between m.sources m.ties c.args.every c.args.clock c.args.first c.args.last rows c.requires.every span from to begin end in
    let number : suc count.0 ≡ (to - from) / c.args.every + 1 = (let e = count_is from to c.args.every count.0 c.requires.every count.1 in omega arith) in
    subst (IsTicks m.sources m.ties c.args.every c.args.clock rows) (ap (steps from c.args.every) number ∙ sym c.new.ensures)
    (steps_are_ticks m.sources m.ties c.args.every c.args.clock c.args.first c.args.last rows c.requires.every span from to begin end count.0 count.1)
