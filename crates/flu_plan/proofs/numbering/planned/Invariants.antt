use Rattle.std.proofs.Common.{◌≡◌, ◌++◌, drop}
use Rattle.std.specs.List.{flat_map}
use Rattle.flu_plan.specs.Numbering.{planned_at, planned}
use Rattle.flu_plan.proofs.numbering.planned.Given as goal

abbrev pub invariant-loop-visit : goal.invariant-loop-visit
invariant-loop-visit l = l.plan.items ++ flat_map (planned_at l.text l.order l.nodes) (drop l.visit-index l.order) ≡ planned l.text l.order l.nodes
