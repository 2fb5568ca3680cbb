use Rattle.std.proofs.Common.{◌≡◌}
use Rattle.flu_seq.specs.LoopHeads.{IsBehind, left_in}
use Rattle.flu_seq.proofs.merging.merge.Given as goal

abbrev pub invariant-loop-events : goal.invariant-loop-events
invariant-loop-events l = (l.coming.streams.now ≡ l.s) × IsBehind l.events.items l.coming

abbrev pub decreases-loop-events : goal.decreases-loop-events
decreases-loop-events l = left_in l.coming
