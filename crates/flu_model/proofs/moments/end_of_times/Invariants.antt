use Rattle.std.proofs.Common.{◌≡◌, ◌≤◌, min, drop}
use Rattle.flu_model.specs.Moments.{end_with_clocks}
use Rattle.flu_model.proofs.moments.end_of_times.Given as goal

abbrev pub invariant-loop-source : goal.invariant-loop-source
invariant-loop-source l = (min l.end (end_with_clocks l.limit (drop l.source-index l.p.sources)) ≡ end_with_clocks l.limit l.p.sources) × (l.end ≤ l.limit)
