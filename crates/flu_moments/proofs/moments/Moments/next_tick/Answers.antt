use Rattle.std.proofs.Common.{ℕ, ◌<◌, ◌^◌, sym, subst, inl, inr, arith}
use Rattle.std.specs.Int.{next_multiple_of}
use Rattle.std.proofs.lemmas.Bool.{cases_lt}
use Rattle.flu_moments.specs.Clocks.{IsNextTick}
use Rattle.flu_moments.specs.Moments.{greatest_time}
use Rattle.flu_moments.proofs.NextLemmas.{next_tick_is, none_anyway}
use Rattle.flu_moments.proofs.MomentLemmas.{greatest_below}
use Rattle.flu_moments.proofs.TickLemmas.{only_next_tick}
use Rattle.flu_moments.proofs.moments.Moments.next_tick.Goals as goal

pub returns-in_err-time-clause-none : goal.returns-in_err-time-clause-none
returns-in_err-time-clause-none c =
    let m = c.args.self in
    let from = c.first_time.result in
    let found = next_tick_is m.sources m.ties c.args.every c.args.clock c.args.moment from c.requires.every c.first_time.ensures in
    let late : (time : ℕ) → IsNextTick m.sources m.ties c.args.every c.args.clock c.args.moment time → greatest_time m.sources m.ties < time =
    λ time next.
    let same = only_next_tick m.sources m.ties c.args.every c.args.clock c.args.moment (next_multiple_of from c.args.every) time found next in
    elim (cases_lt (next_multiple_of from c.args.every) (2 ^ 64)) [
      | inl fits ↦ absurd (c.in_err-time.ensures (c.requires.every, fits))
      | inr large ↦ (let least = greatest_below m.sources m.ties in omega arith)
    ] in
    none_anyway c.from_residual.result late

pub returns-then-time-greatest_time-clause-some : goal.returns-then-time-greatest_time-clause-some
returns-then-time-greatest_time-clause-some c =
    let m = c.args.self in
    subst (IsNextTick m.sources m.ties c.args.every c.args.clock c.args.moment) (sym c.in_ok-time.ensures.1)
    (next_tick_is m.sources m.ties c.args.every c.args.clock c.args.moment c.first_time.result c.requires.every c.first_time.ensures)

pub returns-else-time-greatest_time-clause-none : goal.returns-else-time-greatest_time-clause-none
returns-else-time-greatest_time-clause-none c = λ time next.
    let m = c.args.self in
    let found = next_tick_is m.sources m.ties c.args.every c.args.clock c.args.moment c.first_time.result c.requires.every c.first_time.ensures in
    let same = only_next_tick m.sources m.ties c.args.every c.args.clock c.args.moment (next_multiple_of c.first_time.result c.args.every) time found next in
    let is = c.in_ok-time.ensures.1 in
    let late = c.if-time-greatest_time.false in
    let limit = c.greatest_time.ensures in
    omega arith
