use Rattle.std.proofs.Common.{◌≡◌, ◌++◌, length}
use Rattle.std.specs.BTreeMap.{keys, values}
use Rattle.flu_streams.specs.Lists.{times_in}
use Rattle.flu_streams.proofs.timed.part.Given as goal

abbrev pub invariant-loop-early : goal.invariant-loop-early
invariant-loop-early l = record {
  same : l.early.items ++ values l.late ≡ l.fn.early.items ++ values l.fn.late;
  keyed : keys l.late ≡ times_in (values l.late);
}

abbrev pub decreases-loop-early : goal.decreases-loop-early
decreases-loop-early l = length l.early.items
