use Rattle.std.proofs.Common.{◌≡◌, ◌+◌, ◌≤◌, drop, length}
use Rattle.flu_model.specs.Merging.{events_of}
use Rattle.flu_adaptive.proofs.counting.event_count.Given as goal

abbrev pub invariant-loop-place : goal.invariant-loop-place
invariant-loop-place l = (l.count ≤ l.place) × (l.count + length (events_of (drop l.place l.items)) ≡ length (events_of l.items))
