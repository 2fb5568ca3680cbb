use Rattle.std.proofs.Common.{◌≡◌, map, drop}
use Rattle.flu_plan.specs.Faults.{each}
use Rattle.flu_plan.specs.Resolving.{node_of, nodes_of}
use Rattle.flu_lemmas.proofs.Loops.{collect}
use Rattle.flu_plan.proofs.resolving.nodes_of.Given as goal

abbrev pub invariant-loop-node : goal.invariant-loop-node
invariant-loop-node l =
    each (collect (node_of l.p l.text (map (λ k. k.now) l.names.keys))) l.found.items (drop l.node-index l.written) ≡ nodes_of l.p l.text
    (map (λ k. k.now) l.names.keys) l.written
