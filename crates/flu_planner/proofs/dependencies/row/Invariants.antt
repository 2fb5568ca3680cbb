use Rattle.std.proofs.Common.{◌≡◌}
use Rattle.flu_planner.specs.LoopTables.{row_of}
use Rattle.flu_planner.proofs.dependencies.row.Given as goal

abbrev pub invariant-loop-j : goal.invariant-loop-j
invariant-loop-j l = l.row.items ≡ row_of l.p l.i l.j
