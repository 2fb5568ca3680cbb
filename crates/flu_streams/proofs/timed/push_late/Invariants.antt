use Rattle.std.proofs.Common.{◌≡◌, ◌+◌, ◌<◌, ◌++◌, ℕ, vec_len}
use Rattle.std.specs.List.{filter_map}
use Rattle.std.specs.BTreeMap.{values}
use Rattle.flu_streams.specs.Lists.{items_of_list, item_for}
use Rattle.flu_streams.specs.LoopHeld.{taken_by}
use Rattle.flu_streams.proofs.timed.push_late.Given as goal

abbrev pub invariant-loop-item : goal.invariant-loop-item
invariant-loop-item l = record {
  len : vec_len l.lists ≡ vec_len l.fn.lists;
  each : (i : ℕ) → i < vec_len l.fn.lists → items_of_list l.lists i ++ filter_map (item_for (l.first + i)) (taken_by l.end l.item-iterator)
      ≡ items_of_list l.fn.lists i ++ filter_map (item_for (l.first + i)) (taken_by l.end (values l.late));
}
