use Rattle.std.proofs.Common.{◌≡◌, min, take}
use Rattle.std.specs.List.{reduce}
use Rattle.flu_sending.specs.Lines.{times_of}
use Rattle.flu_sending.proofs.times.first_of.Given as goal

abbrev pub invariant-loop-item : goal.invariant-loop-item
invariant-loop-item l = l.first ≡ reduce min (times_of (take l.item-index l.items))
