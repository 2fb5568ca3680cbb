use Rattle.std.specs.Prelude.{IfSome}
use Rattle.std.proofs.Common.{◌≡◌, Option, Some, sym, ap, ◌∙◌, subst, List, arith}
use Rattle.std.specs.List.{AllByRecursion}
use Rattle.flu_lemmas.proofs.Elements.{all_push}
use Rattle.flu_partial.specs.declared.values.Emitted.{Emitted}
use Rattle.flu_partial.specs.Partial.{emitted_value, IsEmitted}
use Rattle.flu_partial.proofs.Entries.{entry_at, one_more, all_read}
use Rattle.flu_partial.proofs.Found.{of_some}
use Rattle.flu_partial.proofs.contributions.outs_in.Goals as goal

pub returns-in_default-clause-found : goal.returns-in_default-clause-found
returns-in_default-clause-found c xs fits same =
    let here = entry_at emitted_value IsEmitted c.args.entries.now xs c.loop-entry.entry-index c.entry-item.result fits same c.loop-entry-test.true
    c.entry-item.is in
    let found = c.in_ok-out.ensures.found here.item here.fits here.value in
    let none = c.in_default.is in
    absurd cc

pub loop-entry-preserved : goal.loop-entry-preserved
loop-entry-preserved c = record {
  fits = subst (AllByRecursion IsEmitted) (sym c.in_ok-push.ensures.items) (all_push IsEmitted c.loop-entry.outs.items c.in-Some.out
      c.loop-entry.invariant.fits (subst (λ (o : Option Emitted). IfSome o IsEmitted) c.in-Some.is c.in_ok-out.ensures.fits));
  found = λ xs fits same.
      let here = entry_at emitted_value IsEmitted c.args.entries.now xs c.loop-entry.entry-index c.entry-item.result fits same c.loop-entry-test.true
      c.entry-item.is in
      one_more xs c.loop-entry.outs.items c.push.new.self.items c.loop-entry.entry-index here.item c.in-Some.out here.there
      (of_some _ _ (sym c.in-Some.is ∙ c.in_ok-out.ensures.found here.item here.fits here.value)) (c.loop-entry.invariant.found xs fits same) c.in_ok-push.ensures.items;
}

pub returns-clause-found : goal.returns-clause-found
returns-clause-found c xs fits same =
    ap Some (c.of.ensures ∙ all_read emitted_value c.args.entries.now xs c.loop-entry.outs.items c.loop-entry.entry-index same
    (omega (arith, c.loop-entry-test.false, c.loop-entry.auto.entry-index-end)) (c.loop-entry.invariant.found xs fits same))
