use Rattle.std.proofs.Common.{◌≡◌, List, map, length, take}
use Rattle.flu_model.specs.declared.events.Item.{Item}
use Rattle.flu_model.specs.Listed.{listed}
use Rattle.flu_run.proofs.feeding.limits.Given as goal

abbrev pub invariant-loop-i : goal.invariant-loop-i
invariant-loop-i l = l.limits.items ≡ map (λ (items : List Item). length items) (take l.i (listed l.case.streams))
