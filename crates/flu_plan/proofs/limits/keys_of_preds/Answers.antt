use Rattle.std.proofs.Common.{◌∙◌, sym, arith}
use Rattle.flu_plan.specs.Faults.{each}
use Rattle.flu_plan.specs.Limits.{keys_of_pred}
use Rattle.flu_plan.proofs.FaultLemmas.{fails_through}
use Rattle.flu_lemmas.proofs.Loops.{each-next-at, each-fault-at, each-end}
use Rattle.flu_plan.proofs.limits.keys_of_preds.Goals as goal

pub returns-in-Err : goal.returns-in-Err
returns-in-Err c =
    fails_through _ _ (each keys_of_pred tt c.args.preds.now)
    (λ e h. sym c.loop-pred.invariant ∙ each-fault-at keys_of_pred _ tt e c.args.preds.now c.loop-pred.pred-index c.loop-pred-test.true h)
    c.in-Err.ensures

pub loop-pred-preserved : goal.loop-pred-preserved
loop-pred-preserved c =
    sym (each-next-at keys_of_pred _ tt tt c.args.preds.now c.loop-pred.pred-index c.loop-pred-test.true c.in-Ok.ensures) ∙ c.loop-pred.invariant

pub returns : goal.returns
returns c = sym c.loop-pred.invariant ∙ each-end keys_of_pred tt c.args.preds.now c.loop-pred.pred-index (omega arith)
