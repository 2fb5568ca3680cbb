use Rattle.std.proofs.Common.{◌≡◌, drop}
use Rattle.flu_plan.specs.Faults.{each, found_of_each}
use Rattle.flu_plan.specs.Resolving.{pred_of}
use Rattle.flu_lemmas.proofs.Loops.{collect}
use Rattle.flu_plan.proofs.resolving.preds_of.Given as goal

abbrev pub invariant-loop-pred : goal.invariant-loop-pred
invariant-loop-pred l = each (collect (pred_of l.p l.text)) l.found.items (drop l.pred-index l.written) ≡ found_of_each (pred_of l.p l.text) l.written
