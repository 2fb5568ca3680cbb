use Rattle.std.proofs.lemmas.Result.{IfOk-weaker}
use Rattle.flu_worker.specs.Holding.{IsHeldAs}
use Rattle.flu_worker.specs.Starting.{IsFirst}
use Rattle.flu_worker.proofs.Ruling.{first_is}
use Rattle.flu_worker.proofs.worker.first_holding.Goals as goal

pub returns-in_ok-opening_lot : goal.returns-in_ok-opening_lot
returns-in_ok-opening_lot c =
    let lot = c.in_ok-opening_lot.field-0 in
    IfOk-weaker c.held_as.result (IsHeldAs c.args.case.now c.args.node lot) (IsFirst c.args.case.now c.args.node)
    (λ h is. first_is c.args.case.now c.args.node h lot c.if-node-eq0.true c.in_ok-opening_lot.ensures.fits c.in_ok-opening_lot.ensures.counts is)
    c.held_as.ensures
