use Rattle.std.proofs.Common.{◌≡◌, length}
use Rattle.flu_deps.specs.LoopClashes.{HasTagsBelow}
use Rattle.flu_deps.proofs.clashes.tags_of.Given as goal

abbrev pub invariant-loop-i : goal.invariant-loop-i
invariant-loop-i l = (length l.tags.kinds ≡ 256) × (length l.tags.keys ≡ 256) × HasTagsBelow l.p l.tags l.i
