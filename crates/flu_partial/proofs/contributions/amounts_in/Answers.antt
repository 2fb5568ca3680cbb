use Rattle.std.proofs.Common.{◌≡◌, Some, sym, ap, ◌∙◌, subst, List, arith}
use Rattle.std.specs.List.{AllByRecursion}
use Rattle.flu_lemmas.proofs.Elements.{all_push}
use Rattle.flu_partial.specs.declared.values.Amount.{Amount}
use Rattle.flu_partial.specs.Partial.{amount_value, IsAmount}
use Rattle.flu_partial.proofs.Entries.{entry_at, one_more, all_read}
use Rattle.flu_partial.proofs.Found.{of_some}
use Rattle.flu_partial.proofs.contributions.amounts_in.Goals as goal

pub returns-in_default-clause-found : goal.returns-in_default-clause-found
returns-in_default-clause-found c xs fits same =
    let here = entry_at amount_value IsAmount c.args.entries.now xs c.loop-entry.entry-index c.entry-item.result fits same c.loop-entry-test.true
    c.entry-item.is in
    let found = c.amount_in.ensures.found here.item here.fits here.value in
    let none = c.in_default.is in
    absurd cc

pub loop-entry-preserved : goal.loop-entry-preserved
loop-entry-preserved c = record {
  fits = subst (AllByRecursion IsAmount) (sym c.in_ok-push.ensures.items) (all_push IsAmount c.loop-entry.amounts.items c.in-Some.amount
      c.loop-entry.invariant.fits c.in-Some.ensures.fits);
  found = λ xs fits same.
      let here = entry_at amount_value IsAmount c.args.entries.now xs c.loop-entry.entry-index c.entry-item.result fits same c.loop-entry-test.true
      c.entry-item.is in
      one_more xs c.loop-entry.amounts.items c.push.new.self.items c.loop-entry.entry-index here.item c.in-Some.amount here.there
      (of_some _ _ (c.in-Some.ensures.found here.item here.fits here.value)) (c.loop-entry.invariant.found xs fits same) c.in_ok-push.ensures.items;
}

pub returns-clause-found : goal.returns-clause-found
returns-clause-found c xs fits same =
    ap Some (c.of.ensures ∙ all_read amount_value c.args.entries.now xs c.loop-entry.amounts.items c.loop-entry.entry-index same
    (omega (arith, c.loop-entry-test.false, c.loop-entry.auto.entry-index-end)) (c.loop-entry.invariant.found xs fits same))
