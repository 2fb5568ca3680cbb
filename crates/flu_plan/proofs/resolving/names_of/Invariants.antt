use Rattle.std.proofs.Common.{◌≡◌, map, drop}
use Rattle.flu_plan.specs.Faults.{each}
use Rattle.flu_plan.specs.Resolving.{with_name, names_of}
use Rattle.flu_plan.proofs.resolving.names_of.Given as goal

abbrev pub invariant-loop-node : goal.invariant-loop-node
invariant-loop-node l = each (with_name l.text) (map (λ k. k.now) l.names.keys) (drop l.node-index l.written) ≡ names_of l.text l.written
