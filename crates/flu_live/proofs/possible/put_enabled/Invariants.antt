use Rattle.std.proofs.Common.{◌≡◌, take}
use Rattle.flu_live.specs.Possible.{enabled_among}
use Rattle.flu_live.proofs.possible.put_enabled.Given as goal

abbrev pub invariant-loop-s : goal.invariant-loop-s
invariant-loop-s l = l.enabled.items ≡ enabled_among l.net (take l.s-index l.steps)
