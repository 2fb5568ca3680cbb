use Rattle.std.proofs.Common.{◌≡◌, ◌<◌, length, ◌+◌, ◌++◌, ◌∷◌, [], ℕ, false, map, take, get_or, vec_len, refl, sym, subst, ap, ◌∙◌, arith}
use Rattle.std.specs.Prelude.{is_some}
use Rattle.std.proofs.lemmas.List.{take_more, map-append}
use Rattle.flu_lemmas.proofs.Elements.{each_push}
use Rattle.flu_model.specs.Erasure.{job_of}
use Rattle.flu_model.specs.declared.jobs.Source.{Source}
use Rattle.flu_model.specs.Moments.{timing_of}
use Rattle.flu_rows.specs.Row.{form_of}
use Rattle.flu_streams.specs.Holding.{unread_source}
use Rattle.flu_streams.specs.LoopHeld.{source_of}
use Rattle.flu_streams.specs.declared.inlet.Inlet.{Inlet}
use Rattle.flu_streams.proofs.held.new_inlets.Goals as goal

pub loop-source-preserved : goal.loop-source-preserved
loop-source-preserved c =
    let inlets = c.loop-source.inlets.items in
    let h = c.in_ok-new.field-0 in
    let i = c.loop-source.source-index in
    let s = c.source-item.result in
    let sources = c.args.p.now.sources in
    let first = unread_source (form_of (job_of c.args.p.now)) c.args.border in
    let more : c.push.new.self.items ≡ inlets ++ h ∷ [] = c.in_ok-push.ensures.items in
    let is : s ≡ get_or sources i s = rw c.items-source-items.ensures at c.source-item.is in
    let one : source_of h ≡ first (get_or sources i s) =
    subst (λ (t : Source). source_of h ≡ first t) is (rw c.loop-source.invariant.form at c.in_ok-new.ensures.source) in
    let lt : i < length sources = rw c.items-source-items.ensures at c.loop-source-test.true in
    let size : length inlets ≡ vec_len c.loop-source.inlets = omega (arith, c.loop-source.inlets.ok.0) in
    let last : map first (take (i + 1) sources) ≡ map first (take i sources) ++ first (get_or sources i s) ∷ [] =
    ap (map first) (take_more sources i s lt) ∙ map-append first (take i sources) (get_or sources i s ∷ []) in
    record {
      form = c.loop-source.invariant.form;
      fresh = rw (more, map-append source_of inlets (h ∷ []), c.loop-source.invariant.fresh, one, last) refl;
      timed = rw more (each_push (λ (j : ℕ) (x : Inlet). x.timing ≡ timing_of c.args.p.now j) inlets h c.loop-source.invariant.timed
          (c.in_ok-new.ensures.timing ∙ c.timing_of-timing.ensures.value ∙ ap (timing_of c.args.p.now) (c.len.ensures ∙ sym size)));
      uncounted = rw more (each_push (λ (j : ℕ) (x : Inlet). is_some x.held ≡ false) inlets h c.loop-source.invariant.uncounted
          (ap is_some c.in_ok-new.ensures.held));
    }
