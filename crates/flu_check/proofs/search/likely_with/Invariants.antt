use Rattle.std.proofs.Common.{◌<◌}
use Rattle.std.specs.Prelude.{IfSome}
use Rattle.flu_check.proofs.search.likely_with.Given as goal

abbrev pub invariant-loop-k : goal.invariant-loop-k
invariant-loop-k l = IfSome l.likely (λ m. (m.0.0 < l.count) × (m.1.0 < l.count))
