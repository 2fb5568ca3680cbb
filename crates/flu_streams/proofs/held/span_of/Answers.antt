use Rattle.std.proofs.Common.{◌≡◌, ◌+◌, ◌/◌, ◌<◌, ◌∷◌, List, Some, suc, length, drop, refl, sym, ap, subst, ◌∙◌, arith}
use Rattle.std.proofs.Math.Seq.{drop-cons}
use Rattle.std.proofs.lemmas.Option.{slice_get_read}
use Rattle.std.specs.Prelude.{slice_get}
use Rattle.flu_model.specs.declared.jobs.Source.{Source}
use Rattle.flu_model.specs.declared.moments.Timing.{Timing}
use Rattle.flu_model.specs.Moments.{end_of_times}
use Rattle.flu_streams.specs.declared.inlet.Inlet.{Inlet}
use Rattle.flu_streams.specs.LoopClocks.{IsEarly, span_from, span_with}
use Rattle.flu_streams.proofs.Ticking.{early_with, early_ranks}
use Rattle.flu_streams.proofs.held.span_of.Goals as goal

pub span_with-span-requires-clause-range : goal.span_with-span-requires-clause-range
span_with-span-requires-clause-range c t e =
    let p = c.args.p.now in
    let inlets = c.args.inlets.now in
    let i = c.loop-inlet.inlet-index in
    let h = c.inlet-item.result in
    let is : slice_get inlets i ≡ Some h = slice_get_read inlets (length inlets) i h refl c.loop-inlet-test.true c.inlet-item.is in
    let end = ap (λ (timing : Timing). timing.end) (c.requires.timed i h is) in
    let lt : t < end_of_times p = (let early = h.early t e in omega (arith, early, end)) in
    let some : 0 < length p.sources = omega (arith, c.requires.count, c.loop-inlet-test.true) in
    subst (λ (l : List Source). t < 9223372036854775808 / length l) (sym c.items.ensures) (early_ranks p t c.requires.version some lt)

pub loop-inlet-preserved : goal.loop-inlet-preserved
loop-inlet-preserved c =
    let p = c.args.p.now in
    let inlets = c.args.inlets.now in
    let i = c.loop-inlet.inlet-index in
    let span = c.loop-inlet.span in
    let h = c.inlet-item.result in
    let inv = c.loop-inlet.invariant in
    let is : slice_get inlets i ≡ Some h = slice_get_read inlets (length inlets) i h refl c.loop-inlet-test.true c.inlet-item.is in
    let end = ap (λ (timing : Timing). timing.end) (c.requires.timed i h is) in
    let next : suc i ≡ i + 1 = omega arith in
    let dropped : drop i inlets ≡ h ∷ drop (i + 1) inlets =
    drop-cons inlets i h c.loop-inlet-test.true ∙ ap (λ (x : Inlet). x ∷ drop (suc i) inlets) (sym c.inlet-item.is) ∙ ap (λ n. h ∷ drop n inlets) next in
    let now : c.span_with-span.result ≡ span_with (length p.sources) i span h.first h.last =
    c.span_with-span.ensures.span ∙ ap (λ n. span_with (length c.items.result.now) n span h.first h.last) inv.number
    ∙ ap (λ (l : List Source). span_with (length l) i span h.first h.last) c.items.ensures in
    record {
      number = omega (arith, inv.number);
      span = ap (λ x. span_from (length p.sources) (i + 1) x (drop (i + 1) inlets)) now
          ∙ ap (λ n. span_from (length p.sources) n (span_with (length p.sources) i span h.first h.last) (drop (i + 1) inlets)) (sym next)
          ∙ sym (ap (span_from (length p.sources) i span) dropped) ∙ inv.span;
      early = subst (IsEarly (length p.sources) (end_of_times p)) (sym now)
          (early_with (length p.sources) i (end_of_times p) span h.first h.last (omega (arith, c.requires.count, c.loop-inlet-test.true)) h.ordered
          (λ t e. let early = h.early t e in omega (arith, early, end)) inv.early);
    }
