use Rattle.std.proofs.Common.{◌≡◌, take}
use Rattle.std.specs.List.{flat_map}
use Rattle.std.specs.String.{string_bytes}
use Rattle.flu_plan.specs.Printing.{node_line}
use Rattle.flu_plan.proofs.printing.printed.Given as goal

abbrev pub invariant-loop-node : goal.invariant-loop-node
invariant-loop-node l = string_bytes l.text ≡ flat_map (node_line l.p l.nodes) (take l.node-index l.nodes)
