use Rattle.flu_plan.specs.Limits.{keys_of_pred}
use Rattle.flu_lemmas.proofs.Loops.{each-passed}
use Rattle.flu_plan.proofs.numbering.planned_preds.Goals as goal

pub planned_pred-requires : goal.planned_pred-requires
planned_pred-requires c = each-passed keys_of_pred c.args.preds.now c.loop-pred.pred-index _ c.requires c.loop-pred-test.true
