use Rattle.std.proofs.Common.{◌≡◌, ◌++◌, length}
use Rattle.std.specs.BTreeMap.{keys, values}
use Rattle.flu_streams.specs.Lists.{times_in}
use Rattle.flu_streams.proofs.timed.move_back.Given as goal

abbrev pub invariant-loop-own : goal.invariant-loop-own
invariant-loop-own l = record {
  same : l.early.items ++ values l.late ≡ l.fn.early.items ++ values l.fn.late;
  keyed : keys l.late ≡ times_in (values l.late);
}

abbrev pub decreases-loop-own : goal.decreases-loop-own
decreases-loop-own l = length l.late.entries
