use Rattle.std.proofs.Common.{◌≡◌, ◌++◌, take}
use Rattle.flu_live.proofs.possible.push_each.Given as goal

abbrev pub invariant-loop-s : goal.invariant-loop-s
invariant-loop-s l = l.steps.items ≡ l.fn.steps.items ++ take l.s-index l.more
