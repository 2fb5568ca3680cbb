use Rattle.std.proofs.Common.{◌≡◌, ◌<◌, ◌≤◌, ◌-◌, ◌*◌, ◌/◌, ◌^◌, List, [], ◌∷◌, take, length, sym, ap, ◌∙◌, arith, subst, filter}
use Rattle.std.specs.List.{All}
use Rattle.std.proofs.lemmas.List.Elements.{All-filter, All-weaker}
use Rattle.std.proofs.lemmas.Option.{slice_get_within}
use Rattle.flu_model.specs.Moments.{limit_of_times, last_multiple}
use Rattle.flu_moments.specs.Clocks.{IsNextTick, ticks_among, is_inside}
use Rattle.flu_moments.specs.Moments.{greatest_time}
use Rattle.flu_model.specs.declared.jobs.Source.{Source}
use Rattle.flu_streams.specs.Clocks.{ticks_of}
use Rattle.flu_streams.specs.LoopClocks.{ranks_in}
use Rattle.flu_streams.specs.Rounds.{is_within}
use Rattle.flu_streams.proofs.ClockTimes.{rank_fits, limit_of_ranks, next_within, end_is_multiple, end_is_behind, end_is_early, until_of, inside_is}
use Rattle.flu_streams.proofs.ClockTimes.{two_span, ticks_are}
use Rattle.flu_streams.proofs.Spans.{period_some, clock_is_newer, has_ties}
use Rattle.flu_streams.proofs.clocks.ticks_within.Goals.{in-At, in-Closed}
use Rattle.flu_streams.proofs.clocks.ticks_within.Goals as goal

-- the clock of this number
pub ticks_inside-requires-clause-every : goal.ticks_inside-requires-clause-every
ticks_inside-requires-clause-every c = period_some c.args.p.now c.args.number c.args.source.now c.in-Some-Some.every c.requires.source c.in-Some-Some.is-0

pub ticks_inside-requires-clause-clock : goal.ticks_inside-requires-clause-clock
ticks_inside-requires-clause-clock c =
    let within = slice_get_within c.args.p.now.sources c.args.number c.args.source.now c.requires.source in
    let same = ap length c.items.ensures in
    let number = c.from.ensures in
    omega (arith, within, same, number)

pub ticks_inside-requires-clause-last : goal.ticks_inside-requires-clause-last
ticks_inside-requires-clause-last c =
    let within = slice_get_within c.args.p.now.sources c.args.number c.args.source.now c.requires.source in
    rank_fits c.args.p.now (clock_is_newer c.args.p.now c.args.number c.args.source.now c.in-Some-Some.every c.requires.source c.in-Some-Some.is-0)
    (has_ties c.args.p.now) (omega (arith, within)) c.in-Some-Some.span.last ((c.requires.early c.in-Some-Some.span c.in-Some-Some.is-1).1)

pub unreachable-requires : goal.unreachable-requires
unreachable-requires c =
    let p = c.args.p.now in
    let within = slice_get_within p.sources c.args.number c.args.source.now c.requires.source in
    let newer = clock_is_newer p c.args.number c.args.source.now c.in-Some-Some.every c.requires.source c.in-Some-Some.is-0 in
    let early = (c.requires.early c.in-Some-Some.span c.in-Some-Some.is-1).1 in
    let some = period_some p c.args.number c.args.source.now c.in-Some-Some.every c.requires.source c.in-Some-Some.is-0 in
    let next = c.ticks_follow_rows.ensures.determined.some_next (length p.sources) 1 c.in-Some-Some.every c.args.number c.in-Some-Some.span.last
    (omega arith) within some in
    let lt = next_within p c.args.number c.args.source.now c.in-Some-Some.every c.requires.source c.in-Some-Some.is-0 c.in-Some-Some.span.last early next.0 next.1 in
    let limit = limit_of_ranks p newer (has_ties p) (omega (arith, within)) in
    let own = subst (λ n. IsNextTick n 1 c.in-Some-Some.every c.from.result c.in-Some-Some.span.last next.0) (sym (ap length c.items.ensures))
    (subst (λ k. IsNextTick (length p.sources) 1 c.in-Some-Some.every k c.in-Some-Some.span.last next.0) (sym c.from.ensures) next.1) in
    let over = c.in-None.ensures.none next.0 own in
    let single : length p.sources * 1 ≡ length p.sources = omega arith in
    let greatest : greatest_time (length c.items.result.now) 1 ≡ 2 ^ 63 / length p.sources - 1 =
    ap (λ (xs : List Source). greatest_time (length xs) 1) c.items.ensures ∙ ap (λ m. 2 ^ 63 / m - 1) single in
    omega (arith, lt, limit, over, greatest)

until_is : (c : goal.In-Some) → c.match-end.until ≡ until_of c.args.end
until_is c = elim c.match-end.branch [ in-At w ↦ w.until-is ∙ ap until_of (sym w.in-At.is) | in-Closed w ↦ w.until-is ∙ ap until_of (sym w.in-Closed.is) ]

-- the ticks that were found
found : (c : goal.In-Some) → c.in-Some.ticks ≡ filter (is_inside c.args.above c.match-end.until)
    (ticks_among (length c.args.p.now.sources) 1 c.in-Some-Some.every c.args.number (c.in-Some-Some.span.first ∷ c.in-Some-Some.span.last ∷ []))
found c =
    let p = c.args.p.now in
    let ordered = (c.requires.early c.in-Some-Some.span c.in-Some-Some.is-1).0 in
    let first = c.in-Some-Some.span.first in
    let last = c.in-Some-Some.span.last in
    c.in-Some.ensures.some (first ∷ last ∷ []) (two_span first last ordered)
    ∙ ap (λ (xs : List Source). filter (is_inside c.args.above c.match-end.until)
    (ticks_among (length xs) 1 c.in-Some-Some.every c.from.result (first ∷ last ∷ []))) c.items.ensures
    ∙ ap (λ k. filter (is_inside c.args.above c.match-end.until) (ticks_among (length p.sources) 1 c.in-Some-Some.every k (first ∷ last ∷ []))) c.from.ensures

pub returns-clause-ticks : goal.returns-clause-ticks
returns-clause-ticks c =
    let p = c.args.p.now in
    let within = slice_get_within p.sources c.args.number c.args.source.now c.requires.source in
    let first = c.in-Some-Some.span.first in
    let last = c.in-Some-Some.span.last in
    found c
    ∙ ap (λ o. filter (is_inside c.args.above o) (ticks_among (length p.sources) 1 c.in-Some-Some.every c.args.number (first ∷ last ∷ []))) (until_is c)
    ∙ ap (λ f. filter f (ticks_among (length p.sources) 1 c.in-Some-Some.every c.args.number (first ∷ last ∷ []))) (inside_is c.args.above c.args.end)
    ∙ ap (filter (is_within c.args.above c.args.end)) (sym (ticks_are p c.args.number c.args.source.now c.in-Some-Some.every c.in-Some-Some.span
    (omega (arith, within)) c.in-Some-Some.is-0))
    ∙ ap (λ o. filter (is_within c.args.above c.args.end) (ticks_of p (ranks_in o) (take c.args.number p.sources, c.args.source.now))) (sym c.in-Some-Some.is-1)

pub returns-clause-range : goal.returns-clause-range
returns-clause-range c =
    let p = c.args.p.now in
    let within = slice_get_within p.sources c.args.number c.args.source.now c.requires.source in
    let early = c.requires.early c.in-Some-Some.span c.in-Some-Some.is-1 in
    let first = c.in-Some-Some.span.first in
    let last = c.in-Some-Some.span.last in
    let every = c.in-Some-Some.every in
    let some = period_some p c.args.number c.args.source.now every c.requires.source c.in-Some-Some.is-0 in
    let ticks = ticks_among (length p.sources) 1 every c.args.number (first ∷ last ∷ []) in
    let lt = end_is_early p c.args.number c.args.source.now every c.requires.source c.in-Some-Some.is-0 last early.1 in
    let near = c.ticks_follow_rows.ensures.within (length p.sources) 1 every c.args.number first last (last_multiple (limit_of_times p) every)
    (first ∷ last ∷ [])
    (omega arith) within some (two_span first last early.0)
    (end_is_multiple p c.args.number c.args.source.now every c.requires.source c.in-Some-Some.is-0 last early.1)
    (end_is_behind p c.args.number c.args.source.now every c.requires.source c.in-Some-Some.is-0 last early.1) in
    let whole = All-weaker (λ time. time ≤ last_multiple (limit_of_times p) every) (λ time. time < limit_of_times p)
    (λ time le. omega (arith, le, lt)) ticks near in
    subst (All (λ time. time < limit_of_times p)) (sym (found c))
    (All-filter (is_inside c.args.above c.match-end.until) (λ time. time < limit_of_times p) ticks whole)
