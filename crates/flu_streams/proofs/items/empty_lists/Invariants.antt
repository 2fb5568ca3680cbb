use Rattle.std.proofs.Common.{◌≡◌, ℕ, [], vec_len}
use Rattle.flu_streams.specs.Lists.{items_of_list}
use Rattle.flu_streams.proofs.items.empty_lists.Given as goal

abbrev pub invariant-loop : goal.invariant-loop
invariant-loop l = record {
  len : vec_len l.lists ≡ l.counter;
  empty : (i : ℕ) → items_of_list l.lists i ≡ [];
}
