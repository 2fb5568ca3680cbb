use Rattle.std.proofs.Common.{◌≡◌, drop}
use Rattle.flu_plan.specs.Faults.{each}
use Rattle.flu_plan.specs.Limits.{keys_of_pred}
use Rattle.flu_plan.proofs.limits.keys_of_preds.Given as goal

abbrev pub invariant-loop-pred : goal.invariant-loop-pred
invariant-loop-pred l = each keys_of_pred tt (drop l.pred-index l.preds) ≡ each keys_of_pred tt l.preds
