use Rattle.std.proofs.Common.{◌≡◌, ◌∙◌, ◌++◌, ◌∷◌, [], Ok, sym, ap, arith}
use Rattle.std.proofs.lemmas.Grind.{common_steps}
use Rattle.flu_plan.specs.Faults.{found_of_each}
use Rattle.flu_plan.specs.Resolving.{pred_of}
use Rattle.flu_plan.proofs.FaultLemmas.{fails_through}
use Rattle.flu_lemmas.proofs.Loops.{each-next-at, each-fault-at, each-end, collect, collects, collect-fault}
use Rattle.flu_plan.proofs.resolving.preds_of.Goals as goal

pub returns-in-Err : goal.returns-in-Err
returns-in-Err c =
    let find = pred_of c.args.p.now c.args.text.now in
    fails_through _ _ (found_of_each find c.args.written.now)
    (λ e h. sym c.loop-pred.invariant
    ∙ each-fault-at (collect find) _ c.loop-pred.found.items e c.args.written.now c.loop-pred.pred-index c.loop-pred-test.true
    (collect-fault find c.loop-pred.found.items _ e h))
    c.in-Err.ensures

pub loop-pred-preserved : goal.loop-pred-preserved
loop-pred-preserved c =
    let find = pred_of c.args.p.now c.args.text.now in
    let done = c.loop-pred.found.items in
    let items : c.push.new.self.items ≡ done ++ c.in-Ok.pred ∷ [] = grind (arith, common_steps) in
    rw items
    (sym (each-next-at (collect find) _ done (done ++ c.in-Ok.pred ∷ []) c.args.written.now c.loop-pred.pred-index c.loop-pred-test.true
    (collects find done _ c.in-Ok.pred c.in-Ok.ensures))
    ∙ c.loop-pred.invariant)

pub returns : goal.returns
returns c =
    sym c.loop-pred.invariant
    ∙ each-end (collect (pred_of c.args.p.now c.args.text.now)) c.loop-pred.found.items c.args.written.now c.loop-pred.pred-index (omega arith)
    ∙ ap (λ all. Ok all) (sym c.of.ensures)
