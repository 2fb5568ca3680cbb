use Rattle.std.specs.List.{list_all}
use Rattle.std.specs.Prelude.{nat_le, unwrap_or}
use Rattle.std.proofs.Common.{◌≡◌, true, ◌<◌, ◌+◌, ◌-◌, ◌*◌, ℕ, List, Option, Some, None, length, sym, ap, ◌∙◌, arith}
use Rattle.flu_lemmas.specs.Counting.{times}
use Rattle.flu_model.specs.declared.events.Item.{Item}
use Rattle.flu_model.specs.declared.moments.Timing.{Timing}
use Rattle.flu_model.specs.Moments.{IsTiming, moment_at}
use Rattle.flu_streams.specs.Lists.{times_in}
use Rattle.flu_streams.specs.LoopMoments.{own_times, between, are_in_a_row}
use Rattle.flu_streams.specs.Tests.{margin, test_behind}
use Rattle.flu_streams.proofs.Between.{in_a_row_follow, counted, rises_times, none_at, test_passes, test_same}
use Rattle.flu_streams.proofs.late.moment_behind.Goals as goal

-- no item is later than the greatest time
none_held : (timing : Timing) (items : List Item) (last : Option ℕ) (l time : ℕ) → list_all (λ t. nat_le t (unwrap_or last 0)) (own_times timing items) ≡ true
    → last ≡ Some l → l < time → times time (own_times timing items) ≡ 0
none_held timing items last l time within is lt =
    none_at (own_times timing items) l time (sym (ap (λ o. list_all (λ t. nat_le t (unwrap_or o 0)) (own_times timing items)) is) ∙ within) lt

first_place : (timing : Timing) (time n : ℕ) → n ≡ 0 → time * timing.scale + timing.offset ≡ moment_at timing time n
first_place timing time n none = omega (arith, none)

next_place : (timing : Timing) (time n : ℕ) → n < timing.ties → time * timing.scale + timing.offset + n ≡ moment_at timing time n
next_place timing time n few = omega (arith, few)

pub returns-then-time-last-clause-passes : goal.returns-then-time-last-clause-passes
returns-then-time-last-clause-passes c =
    let none = none_held c.args.timing c.args.items.now c.args.last c.in-Some.last c.args.time c.requires.within c.in-Some.is c.if-time-last.true in
    ap (λ l. test_behind c.args.timing c.args.slack (own_times c.args.timing c.args.items.now) l c.args.time) c.in-Some.is
    ∙ test_passes c.args.timing c.args.slack c.in-Some.last c.args.time (own_times c.args.timing c.args.items.now) (omega (arith, c.if-time-last.true))
    (omega (arith, none, c.requires.timing.some))

pub returns-then-time-last-clause-moment : goal.returns-then-time-last-clause-moment
returns-then-time-last-clause-moment c =
    first_place c.args.timing c.args.time (times c.args.time (own_times c.args.timing c.args.items.now))
    (none_held c.args.timing c.args.items.now c.args.last c.in-Some.last c.args.time c.requires.within c.in-Some.is c.if-time-last.true)

pub returns-then-time-last-clause-few : goal.returns-then-time-last-clause-few
returns-then-time-last-clause-few c =
    let none = none_held c.args.timing c.args.items.now c.args.last c.in-Some.last c.args.time c.requires.within c.in-Some.is c.if-time-last.true in
    omega (arith, none, c.requires.timing.some)

pub count_between-requires-clause-in_a_row : goal.count_between-requires-clause-in_a_row
count_between-requires-clause-in_a_row c = in_a_row_follow c.args.timing c.requires.timing c.args.time None 0 (times_in c.args.items.now)
    (λ b e. absurd cc) (rises_times c.args.items.now c.requires.rising) c.requires.in_a_row

-- what was counted is how many items have the time
is_counted : (timing : Timing) (items : List Item) (time n : ℕ) → IsTiming timing → are_in_a_row timing None (times_in items) ≡ true
    → n ≡ length (between (time * timing.scale + timing.offset) (time * timing.scale + timing.offset + timing.ties) (times_in items))
    → n ≡ times time (own_times timing items)
is_counted timing items time n fits row is = is ∙ sym (counted timing fits time None (times_in items) row)

pub returns-then-before-timing-clause-refused : goal.returns-then-before-timing-clause-refused
returns-then-before-timing-clause-refused c =
    let n = is_counted c.args.timing c.args.items.now c.args.time c.in-Ok.before c.requires.timing c.requires.in_a_row c.in-Ok.ensures.count in
    let late : c.in-Some.last - c.args.time < margin c.args.timing c.args.slack = omega (arith, c.if-last-time.false, c.margin.ensures) in
    ap (λ l. test_behind c.args.timing c.args.slack (own_times c.args.timing c.args.items.now) l c.args.time) c.in-Some.is
    ∙ test_same c.args.timing c.args.slack c.in-Some.last c.args.time (own_times c.args.timing c.args.items.now) (omega (arith, late))
    (omega (arith, n, c.if-before-timing.true))
    ∙ ap Some (sym c.same_time.ensures)

pub returns-clause-passes : goal.returns-clause-passes
returns-clause-passes c =
    let n = is_counted c.args.timing c.args.items.now c.args.time c.in-Ok.before c.requires.timing c.requires.in_a_row c.in-Ok.ensures.count in
    let late : c.in-Some.last - c.args.time < margin c.args.timing c.args.slack = omega (arith, c.if-last-time.false, c.margin.ensures) in
    ap (λ l. test_behind c.args.timing c.args.slack (own_times c.args.timing c.args.items.now) l c.args.time) c.in-Some.is
    ∙ test_passes c.args.timing c.args.slack c.in-Some.last c.args.time (own_times c.args.timing c.args.items.now) (omega (arith, late))
    (omega (arith, n, c.if-before-timing.false))

pub returns-clause-moment : goal.returns-clause-moment
returns-clause-moment c =
    let n = is_counted c.args.timing c.args.items.now c.args.time c.in-Ok.before c.requires.timing c.requires.in_a_row c.in-Ok.ensures.count in
    next_place c.args.timing c.args.time c.in-Ok.before (omega (arith, c.if-before-timing.false)) ∙ ap (moment_at c.args.timing c.args.time) n

pub returns-clause-few : goal.returns-clause-few
returns-clause-few c =
    let n = is_counted c.args.timing c.args.items.now c.args.time c.in-Ok.before c.requires.timing c.requires.in_a_row c.in-Ok.ensures.count in
    omega (arith, n, c.if-before-timing.false)
