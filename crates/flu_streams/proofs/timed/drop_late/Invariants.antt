use Rattle.std.proofs.Common.{◌≡◌, length}
use Rattle.std.specs.Prelude.{nat_lt}
use Rattle.std.specs.List.{filter}
use Rattle.std.specs.BTreeMap.{keys, values}
use Rattle.flu_model.specs.declared.events.Item.{Item}
use Rattle.flu_streams.specs.Lists.{item_time, times_in}
use Rattle.flu_streams.proofs.timed.drop_late.Given as goal

abbrev pub invariant-loop-own : goal.invariant-loop-own
invariant-loop-own l = record {
  same : filter (λ (item : Item). nat_lt l.time (item_time item)) (values l.late) ≡ filter (λ (item : Item). nat_lt l.time (item_time item)) (values l.fn.late);
  keyed : keys l.late ≡ times_in (values l.late);
}

abbrev pub decreases-loop-own : goal.decreases-loop-own
decreases-loop-own l = length l.late.entries
