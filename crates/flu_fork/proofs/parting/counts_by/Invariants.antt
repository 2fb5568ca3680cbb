use Rattle.std.proofs.Common.{◌≡◌, map}
use Rattle.std.specs.List.{range_with_len}
use Rattle.flu_fork.specs.Tables.{count_by}
use Rattle.flu_fork.proofs.parting.counts_by.Given as goal

abbrev pub invariant-loop-i : goal.invariant-loop-i
invariant-loop-i l = l.numbers.items ≡ map (count_by l.is_right l.lefts l.rights) (range_with_len 0 l.i)
