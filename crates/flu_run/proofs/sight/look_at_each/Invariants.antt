use Rattle.std.proofs.Common.{◌≡◌}
use Rattle.flu_run.specs.Seeing.{Sees, SeesMore}
use Rattle.flu_run.proofs.sight.look_at_each.Given as goal

abbrev pub invariant-loop-i : goal.invariant-loop-i
invariant-loop-i l = (l.case ≡ l.worker.case) × Sees l.worker l.watch × SeesMore l.initial.worker l.worker
