use Rattle.std.proofs.Common.{◌≡◌, map, take}
use Rattle.flu_plan.specs.Numbering.{planned_pred}
use Rattle.flu_plan.proofs.numbering.planned_preds.Given as goal

abbrev pub invariant-loop-pred : goal.invariant-loop-pred
invariant-loop-pred l = l.planned.items ≡ map planned_pred (take l.pred-index l.preds)
