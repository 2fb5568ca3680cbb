use Rattle.std.proofs.Common.{◌≡◌, map, take}
use Rattle.flu_planner.specs.Plans.{pred_of}
use Rattle.flu_planner.proofs.nodes.preds_of.Given as goal

abbrev pub invariant-loop-i : goal.invariant-loop-i
invariant-loop-i l = l.preds.items ≡ map (pred_of l.p) (take l.i-index l.itags)
