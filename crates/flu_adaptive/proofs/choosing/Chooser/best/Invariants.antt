use Rattle.std.specs.Prelude.{IfSome}
use Rattle.flu_deps.specs.Checking.{program_of}
use Rattle.flu_adaptive.specs.Ways.{IsPlannedFor}
use Rattle.flu_adaptive.proofs.choosing.Chooser.best.Given as goal

abbrev pub invariant-loop-depth : goal.invariant-loop-depth
invariant-loop-depth l = IfSome l.best (IsPlannedFor (program_of l.checked))
