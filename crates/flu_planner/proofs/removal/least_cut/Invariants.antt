use Rattle.std.proofs.Common.{ℕ, ◌<◌, drop}
use Rattle.flu_planner.specs.Graphs.{IsApart, rising}
use Rattle.flu_planner.specs.LoopTables.{graph_of}
use Rattle.flu_planner.proofs.removal.least_cut.Given as goal

abbrev pub invariant-loop-count : goal.invariant-loop-count
invariant-loop-count l = (fewer : ℕ) → fewer < l.count → IsApart (graph_of l.table) (rising (drop fewer l.order)) → ⊥
