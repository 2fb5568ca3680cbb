use Rattle.std.proofs.Common.{◌≡◌, ◌≤◌, length, take}
use Rattle.flu_model.specs.Merging.{events_of}
use Rattle.flu_live.proofs.bounding.count_events.Given as goal

abbrev pub invariant-loop-item : goal.invariant-loop-item
invariant-loop-item l = (l.events ≡ length (events_of (take l.item-index l.items))) × (l.events ≤ l.item-index)
