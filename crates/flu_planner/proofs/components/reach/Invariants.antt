use Rattle.std.proofs.Common.{◌-◌, length}
use Rattle.flu_planner.specs.LoopTables.{graph_of}
use Rattle.flu_planner.proofs.Searching.{IsReaching}
use Rattle.flu_planner.proofs.components.reach.Given as goal

abbrev pub invariant-loop-head : goal.invariant-loop-head
invariant-loop-head l = IsReaching (graph_of l.table) l.itags l.head l.connected.items l.rest.items

abbrev pub decreases-loop-head : goal.decreases-loop-head
decreases-loop-head l = length l.itags - l.head
