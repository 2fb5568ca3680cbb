use Rattle.std.proofs.Common.{length}
use Rattle.flu_planner.specs.LoopTables.{graph_of}
use Rattle.flu_planner.proofs.Finding.{IsFinding}
use Rattle.flu_planner.proofs.components.components.Given as goal

abbrev pub invariant-remaining : goal.invariant-remaining
invariant-remaining l = IsFinding (graph_of l.table) l.rates l.itags l.components.items l.rest.items

abbrev pub decreases-remaining : goal.decreases-remaining
decreases-remaining l = length l.rest.items
