use Rattle.std.proofs.Common.{min, max, [], refl, sym, ap, ◌∙◌, subst, arith}
use Rattle.std.specs.Prelude.{unwrap_or}
use Rattle.flu_moments.specs.Clocks.{tick_moment}
use Rattle.flu_moments.specs.Moments.{border}
use Rattle.flu_moments.proofs.InsideLemmas.{IsLow, IsHigh, inside, high_is, low_none, low_some, none_above}
use Rattle.flu_moments.proofs.moments.Moments.ticks_inside.Goals as goal
use Rattle.flu_moments.proofs.moments.Moments.ticks_inside.Goals.{in-None, in-Some+else-time-to}

pub returns-then-time-to-clause-some : goal.returns-then-time-to-clause-some
returns-then-time-to-clause-some c = λ rows span.
    let m = c.args.self in
    let a = c.args in
    let to = c.in_ok-to.to in
    let t = c.in-Some.time in
    c.new.ensures
    ∙ inside m.sources m.ties a.every a.clock a.first a.last to m.has_a_place c.requires.clock c.requires.every a.above a.end
    (max a.first (border m.sources m.ties t)) (tick_moment m.sources m.ties a.clock (min (unwrap_or a.end to) to)) rows [] span c.in_ok-to.ensures.some
    (low_some m.sources m.ties a.every a.clock a.first a.last to m.has_a_place c.requires.clock c.requires.every a.above a.end t c.in-Some.is)
    (high_is m.sources m.ties a.every a.clock a.first a.last to m.has_a_place c.requires.clock c.requires.every a.above a.end (min (unwrap_or a.end to) to) refl)
    (none_above m.sources m.ties a.every a.clock a.first a.last to m.has_a_place c.requires.clock c.requires.every a.above a.end t c.in-Some.is
    (let late = c.if-time-to.true in omega arith))

pub returns-clause-some : goal.returns-clause-some
returns-clause-some c = λ rows span.
    let m = c.args.self in
    let a = c.args in
    let to = c.in_ok-to.to in
    let low : IsLow m.sources m.ties a.every a.clock a.first a.last to m.has_a_place c.requires.clock c.requires.every a.above a.end c.match-above.low = elim c.match-above.branch [
      | in-None w ↦ subst (IsLow m.sources m.ties a.every a.clock a.first a.last to m.has_a_place c.requires.clock c.requires.every a.above a.end) (sym w.low-is)
          (low_none m.sources m.ties a.every a.clock a.first a.last to m.has_a_place c.requires.clock c.requires.every a.above a.end w.in-None.is)
      | in-Some+else-time-to w ↦ subst (IsLow m.sources m.ties a.every a.clock a.first a.last to m.has_a_place c.requires.clock c.requires.every a.above a.end)
          (sym (w.low-is ∙ w.max-low.ensures ∙ ap (max a.first) w.border.ensures.value))
          (low_some m.sources m.ties a.every a.clock a.first a.last to m.has_a_place c.requires.clock c.requires.every a.above a.end w.in-Some.time w.in-Some.is)
    ] in
    inside m.sources m.ties a.every a.clock a.first a.last to m.has_a_place c.requires.clock c.requires.every a.above a.end
    c.match-above.low c.moment-high.result rows c.ticks_between.result span c.in_ok-to.ensures.some low
    (subst (IsHigh m.sources m.ties a.every a.clock a.first a.last to m.has_a_place c.requires.clock c.requires.every a.above a.end) (sym c.moment-high.ensures.value)
    (high_is m.sources m.ties a.every a.clock a.first a.last to m.has_a_place c.requires.clock c.requires.every a.above a.end c.min-until.result
    (c.min-until.ensures ∙ ap (λ x. min x to) c.unwrap_or.ensures)))
    c.ticks_between.ensures
