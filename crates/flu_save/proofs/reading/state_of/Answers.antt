use Rattle.std.proofs.Common.{Some, ap, ◌∙◌, arith}
use Rattle.flu_cells.specs.Holding.{held}
use Rattle.flu_model.specs.Contents.{with_worth}
use Rattle.flu_save.proofs.Families.{of_some}
use Rattle.flu_save.proofs.States.{nothing_savable, entry_at, fills_next, filled, with_savable}
use Rattle.flu_save.proofs.reading.state_of.Goals as goal

pub loop-entry-init : goal.loop-entry-init
loop-entry-init c = record {
  savable = nothing_savable c.args.p.now.families (held c.new-state.result) c.new-state.ensures;
  found = λ s savable same. c.new-state.ensures;
}

pub returns-in_default-clause-found : goal.returns-in_default-clause-found
returns-in_default-clause-found c s savable same =
    let here = entry_at c.args.p.now.families s c.args.entries.now c.loop-entry.entry-index c.entry-item.result same c.loop-entry-test.true c.entry-item.is in
    let found = c.cell_in.ensures.found s here.cell here.worth savable here.holds here.entry in
    let none = c.in_default.is in
    absurd cc

pub loop-entry-preserved : goal.loop-entry-preserved
loop-entry-preserved c =
    let families = c.args.p.now.families in
    let old = held c.loop-entry.state in
    record {
      savable =
          with_savable families old
          (held c.put.new.state) c.in-Some.cell c.in-Some.worth c.loop-entry.invariant.savable c.in-Some.ensures.fits.0 c.in-Some.ensures.fits.1
          c.in_ok-put.ensures;
      found = λ s savable same.
          let here = entry_at families s c.args.entries.now c.loop-entry.entry-index c.entry-item.result same c.loop-entry-test.true c.entry-item.is in
          let pair = of_some _ _ (c.in-Some.ensures.found s here.cell here.worth savable here.holds here.entry) in
          fills_next families s c.entry-item.result c.loop-entry.entry-index here old (held c.put.new.state) (c.loop-entry.invariant.found s savable same)
          (c.in_ok-put.ensures ∙ ap (λ x. with_worth old x.0 (Some x.1)) pair);
    }

pub returns-clause-found : goal.returns-clause-found
returns-clause-found c s savable same =
    filled c.args.p.now.families s c.args.entries.now c.loop-entry.entry-index (held c.loop-entry.state) savable same
    (omega (arith, c.loop-entry-test.false, c.loop-entry.auto.entry-index-end)) (c.loop-entry.invariant.found s savable same)
