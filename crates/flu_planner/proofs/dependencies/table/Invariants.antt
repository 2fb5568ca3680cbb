use Rattle.std.proofs.Common.{◌≡◌}
use Rattle.flu_planner.specs.LoopTables.{rows_of}
use Rattle.flu_planner.proofs.dependencies.table.Given as goal

abbrev pub invariant-loop-i : goal.invariant-loop-i
invariant-loop-i l = l.rows.items ≡ rows_of l.p l.i
