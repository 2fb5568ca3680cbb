use Rattle.std.proofs.Common.{◌≡◌, ◌<◌, ◌≤◌, ◌++◌, ℕ, [], ◌∷◌, vec_len}
use Rattle.flu_streams.specs.Lists.{items_of_list}
use Rattle.flu_streams.proofs.items.push_each.Given as goal

abbrev pub invariant-loop-place : goal.invariant-loop-place
invariant-loop-place l = record {
  len : vec_len l.lists ≡ vec_len l.fn.lists;
  done : (i : ℕ) → i < l.place → items_of_list l.lists i ≡ items_of_list l.fn.lists i ++ l.fn.item ∷ [];
  ahead : (i : ℕ) → l.place ≤ i → items_of_list l.lists i ≡ items_of_list l.fn.lists i;
}
