use Rattle.std.proofs.Common.{◌≡◌, ◌++◌, take}
use Rattle.std.specs.Prelude.{codes}
use Rattle.std.specs.List.{flat_map}
use Rattle.std.specs.String.{string_bytes}
use Rattle.flu_plan.specs.Printing.{pred_text}
use Rattle.flu_plan.proofs.printing.add_preds.Given as goal

abbrev pub invariant-loop-pred : goal.invariant-loop-pred
invariant-loop-pred l = string_bytes l.text ≡ string_bytes l.initial.text ++ flat_map (λ q. codes ", " ++ pred_text l.p q) (take l.pred-index l.others)
