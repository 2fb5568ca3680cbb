use Rattle.std.proofs.Common.{◌≤◌, ◌<◌, ℕ, length, slice_index_or}
use Rattle.flu_model.specs.declared.events.Item.TheVariants.{End}
use Rattle.flu_streams.specs.Lists.{item_time}
use Rattle.flu_streams.proofs.items.count_until.Given as goal

abbrev pub invariant-loop-count : goal.invariant-loop-count
invariant-loop-count l = record {
  within : l.count ≤ length l.items;
  later : (i : ℕ) → l.count ≤ i → i < length l.items → l.time < item_time (slice_index_or l.items i End);
}

abbrev pub decreases-loop-count : goal.decreases-loop-count
decreases-loop-count l = l.count
