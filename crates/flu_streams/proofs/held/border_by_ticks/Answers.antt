use Rattle.std.proofs.Common.{◌≡◌, ◌<◌, Some, length, take, refl, sym, ap, subst, ◌∙◌, arith}
use Rattle.std.specs.Prelude.{slice_get}
use Rattle.flu_model.specs.Moments.{limit_of_times}
use Rattle.flu_streams.specs.declared.border.Border.TheVariants.{Closed}
use Rattle.flu_streams.specs.LoopClocks.{IsByTicks, last_in_span, span_of, ticks_in_span}
use Rattle.flu_streams.proofs.Rounding.{source_at}
use Rattle.flu_streams.proofs.Spans.{clocks_are_newer}
use Rattle.flu_streams.proofs.Ticking.{none_lower, none_lowered, more_lowered, still_lowered, all_lowered, all_slot}
use Rattle.flu_streams.proofs.held.border_by_ticks.Goals as goal
use Rattle.flu_streams.proofs.held.border_by_ticks.Goals.{in-Some, in_default}

pub returns-then-not-has_clocks : goal.returns-then-not-has_clocks
returns-then-not-has_clocks c =
    none_lower c.args.p.now c.args.rows c.args.above (span_of c.args.p.now c.args.inlets.now) c.args.end (sym c.has_clocks.ensures ∙ c.if-not-has_clocks.true)

pub span_of-span-requires-clause-version : goal.span_of-span-requires-clause-version
span_of-span-requires-clause-version c = clocks_are_newer c.args.p.now (sym c.has_clocks.ensures ∙ c.if-not-has_clocks.false)

pub loop-source-init : goal.loop-source-init
loop-source-init c = record { number = refl; lowered = none_lowered c.args.p.now c.args.rows c.args.above c.span_of-span.result c.args.end }

pub ticks_within-ticks-requires-clause-source : goal.ticks_within-ticks-requires-clause-source
ticks_within-ticks-requires-clause-source c =
    ap (slice_get c.args.p.now.sources) c.loop-source.invariant.number
    ∙ source_at c.args.p.now c.items-source-items.result.now c.loop-source.source-index c.source-item.result c.items-source-items.ensures c.loop-source-test.true
    c.source-item.is

pub loop-source-preserved : goal.loop-source-preserved
loop-source-preserved c =
    let p = c.args.p.now in
    let rows = c.args.rows in
    let above = c.args.above in
    let span = c.span_of-span.result in
    let i = c.loop-source.source-index in
    let s = c.source-item.result in
    let inv = c.loop-source.invariant in
    let at : slice_get p.sources i ≡ Some s =
    source_at p c.items-source-items.result.now i s c.items-source-items.ensures c.loop-source-test.true c.source-item.is in
    let own : last_in_span p rows above span (take i p.sources, s) ≡ c.get.result =
    ap (λ n. last_in_span p rows above span (take n p.sources, s)) (sym inv.number)
    ∙ ap (slice_get (ticks_in_span p above span Closed (take c.loop-source.number p.sources, s))) (sym c.from.ensures)
    ∙ ap (λ l. slice_get l c.from.result) (sym c.ticks_within-ticks.ensures.ticks) ∙ sym c.get.ensures in
    elim c.match-get.branch [
      | in-Some w ↦
          let lt = all_slot (λ time. time < limit_of_times p) c.ticks_within-ticks.result c.from.result w.in-Some.time c.ticks_within-ticks.ensures.range
          (sym c.get.ensures ∙ w.in-Some.is) in
          record {
            number = omega (arith, inv.number);
            lowered = more_lowered p rows above span c.args.end c.loop-source.end c.match-get.end i s w.in-Some.time at (own ∙ w.in-Some.is) lt
                (w.end-is ∙ w.earlier-end.ensures) inv.lowered;
          }
      | in_default w ↦ record {
        number = omega (arith, inv.number);
        lowered = still_lowered p rows above span c.args.end c.loop-source.end c.match-get.end i s c.get.result at own w.in_default.not-Some w.end-is inv.lowered;
      }
    ]

pub returns : goal.returns
returns c =
    let p = c.args.p.now in
    let size : length p.sources ≡ length c.items-source-items.result.now = sym (ap length c.items-source-items.ensures) in
    subst (λ x. IsByTicks p c.args.rows c.args.above x c.args.end c.loop-source.end) c.span_of-span.ensures.span
    (all_lowered p c.args.rows c.args.above c.span_of-span.result c.args.end c.loop-source.end c.loop-source.source-index
    (omega (arith, size, c.loop-source-test.false)) c.loop-source.invariant.lowered)
