use Rattle.std.proofs.Common.{◌≡◌, Some, get_or, arith}
use Rattle.flu_cells.specs.Holding.{held}
use Rattle.flu_handover.proofs.Filled.{no_amount, amount_item, fills_next, filled, with_savable}
use Rattle.flu_handover.proofs.states.state_of.Goals as goal

pub returns-in_default-clause-found : goal.returns-in_default-clause-found
returns-in_default-clause-found c s savable same =
    let here = amount_item c.args.p.now.families s c.args.amounts.now c.loop-amount.amount-index savable same c.loop-amount-test.true in
    let found = c.worth_of.ensures.found here.worth here.fits here.width here.number in
    let none = c.in_default.is in
    absurd cc

pub loop-amount-preserved : goal.loop-amount-preserved
loop-amount-preserved c =
    let families = c.args.p.now.families in
    let amounts = c.args.amounts.now in
    let i = c.loop-amount.amount-index in
    let amount = get_or amounts i no_amount in
    let old = held c.loop-amount.state in
    record {
      savable =
          with_savable families old (held c.put.new.state) amount.cell c.in-Some.worth c.loop-amount.invariant.savable c.in-Some.ensures.fits.0
          c.in-Some.ensures.fits.1 c.in_ok-put.ensures;
      found = λ s savable same.
          let here = amount_item families s amounts i savable same c.loop-amount-test.true in
          let both : Some c.in-Some.worth ≡ Some here.worth = c.in-Some.ensures.found here.worth here.fits here.width here.number in
          fills_next families s amount i here c.in-Some.worth old (held c.put.new.state) (let one : c.in-Some.worth ≡ here.worth = cc in one)
          (c.loop-amount.invariant.found s savable same) c.in_ok-put.ensures;
    }

pub returns-clause-found : goal.returns-clause-found
returns-clause-found c s savable same =
    filled c.args.p.now.families s c.args.amounts.now c.loop-amount.amount-index (held c.loop-amount.state) savable same
    (omega (arith, c.loop-amount-test.false, c.loop-amount.auto.amount-index-end)) (c.loop-amount.invariant.found s savable same)
