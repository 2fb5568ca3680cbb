use Rattle.std.proofs.Common.{◌≡◌, List, map, length, get_or, take, sym, ap, subst, ◌∙◌, arith}
use Rattle.std.specs.List.{AllByRecursion}
use Rattle.std.proofs.Math.Seq.{take-length}
use Rattle.flu_lemmas.proofs.Elements.{all_push}
use Rattle.flu_model.specs.declared.events.Out.{Out}
use Rattle.flu_model.specs.Reports.{line_of as line_of_report}
use Rattle.flu_handover.specs.Handing.{IsListed}
use Rattle.flu_handover.specs.declared.tags.NamedTag.{NamedTag}
use Rattle.flu_handover.proofs.Alike.{same_lines}
use Rattle.flu_handover.proofs.Named.{chosen, emits_next, none_missing}
use Rattle.flu_handover.proofs.outputs.outputs_of.Goals as goal

pub returns-in_default-clause-found : goal.returns-in_default-clause-found
returns-in_default-clause-found c xs listed same =
    none_missing c.args.p.now xs c.args.emitted.now c.loop-one.one-index c.one-item.result c.as_slice.result.now c.as_str.result.now listed same
    c.loop-one-test.true c.one-item.is (c.as_slice.ensures.value ∙ c.in_ok-tags.ensures) c.as_str.ensures c.in_default.ensures.none

pub loop-one-preserved : goal.loop-one-preserved
loop-one-preserved c =
    let p = c.args.p.now in
    let one = c.one-item.result in
    let named = c.index.result.now in
    let tags = c.as_slice.ensures.value ∙ c.in_ok-tags.ensures in
    let choice =
    chosen p c.as_slice.result.now c.as_str.result.now c.in-Some.place named tags c.in-Some.ensures.some
    (c.index.ensures ∙ ap (λ (ts : List NamedTag). get_or ts c.in-Some.place named) (sym c.as_slice.ensures.value)) in
    let x : Out = record { time = one.time; tag = named.tag; text = c.in_ok-text.text } in
    let tag = choice.1 ∙ c.as_str.ensures in
    record {
      listed = subst (AllByRecursion (λ (y : Out). IsListed p y.tag)) (sym c.in_ok-push.ensures.items)
          (all_push (λ (y : Out). IsListed p y.tag) c.loop-one.outs.items x c.loop-one.invariant.listed choice.0);
      same =
          emits_next p c.loop-one.outs.items c.push.new.self.items c.args.emitted.now c.loop-one.one-index one x c.loop-one.invariant.same
          c.in_ok-push.ensures.items (λ k. record { time = one.time; tag = tag k; text = c.in_ok-text.ensures k }) c.loop-one-test.true c.one-item.is;
    }

pub returns-clause-found : goal.returns-clause-found
returns-clause-found c xs listed same =
    let p = c.args.p.now in
    let es = c.args.emitted.now in
    let count : c.loop-one.one-index ≡ length es = omega (arith, c.loop-one-test.false, c.loop-one.auto.one-index-end) in
    ap (map (line_of_report p)) c.of-2.ensures
    ∙ same_lines p c.loop-one.outs.items xs (c.loop-one.invariant.same ∙ ap (λ n. take n es) count ∙ take-length es ∙ same)
