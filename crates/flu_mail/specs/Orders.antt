-- ORDERS: the least of some keys.
use Rattle.std.specs.Prelude.{◌≡◌, ℕ, ◌+◌, ◌<◌, false, Some, List, length, slice_get, slice_index_or}
use Rattle.flu_mail.specs.declared.keys.Key.{Key}
use Rattle.flu_mail.specs.declared.keys.Key.TheVariants.{Over}
use Rattle.flu_mail.specs.Keys.{is_less, lesser}

-- a key is one of some keys, and none of them is less
pub record IsLeastOf (keys : List Key) (k : Key) : Type 0 where
  pub place : ℕ
  pub there : slice_get keys place ≡ Some k
  pub least : (j : ℕ) (q : Key) → slice_get keys j ≡ Some q → is_less q k ≡ false

-- ---- the tree that finds it

abbrev pub node_at : List Key → ℕ → Key
node_at nodes v = slice_index_or nodes v Over

-- a node has the lesser of its children
abbrev pub IsPlayed : List Key → ℕ → Type 0
IsPlayed nodes v = node_at nodes v ≡ lesser (node_at nodes (v + v)) (node_at nodes (v + v + 1))

-- each node has, and the keys are as many nodes behind them
pub record IsTournament (size : ℕ) (nodes : List Key) : Type 0 where
  pub long : length nodes ≡ size + size
  pub played : (v : ℕ) → 0 < v → v < size → IsPlayed nodes v
