-- Climbing in a plan, the owner that each itag of a valid plan has, and a table that is filled.
use Rattle.std.proofs.Common.{◌≡◌, ◌<◌, ◌+◌, ◌-◌, ℕ, zero, suc, Bool, true, false, Option, Some, None, List, [], ◌∷◌, length, inl, inr, refl, ap, arith}
use Rattle.std.specs.Prelude.{◌==◌, ◌||◌, slice_index}
use Rattle.std.specs.List.{list_any}
use Rattle.std.proofs.Math.ListN.{set, replicate}
use Rattle.std.proofs.lemmas.Bool.{cases_eq}
use Rattle.std.proofs.lemmas.Grind.{get_or-set_at}
use Rattle.std.proofs.lemmas.List.{length-set, get_or-set_other, get_or-replicate}
use Rattle.flu_model.specs.declared.plans.Node.{Node}
use Rattle.flu_model.specs.Owners.{parent_of, climb}
use Rattle.flu_model.specs.PlanRules.{is_tree}

-- w is among a node, where there is one, and its ancestors, so many at most
abbrev pub is_met : ℕ → ℕ → List Node → Option ℕ → Bool
is_met w n nodes at = list_any (λ u. u == w) (climb n nodes at)

pub nowhere : (w n : ℕ) (nodes : List Node) → is_met w n nodes None ≡ false
nowhere w zero nodes = refl
nowhere w (suc n) nodes = refl

-- one step up, where k were made of n
pub one_step : (w n k u : ℕ) (nodes : List Node) → k < n → is_met w (n - k) nodes (Some u) ≡ ((u == w) || is_met w (n - (k + 1)) nodes (parent_of nodes u))
one_step w n k u nodes lt = let more : n - k ≡ suc (n - (k + 1)) = omega arith in ap (λ m. is_met w m nodes (Some u)) more

pub has_root : (nodes : List Node) → is_tree nodes ≡ true → 0 < length nodes
has_root [] e = cc
has_root (node ∷ rest) e = omega arith

-- ---- a table that is filled
pub zeros_below : (size k n : ℕ) → k < size → 0 < n → slice_index (replicate size 0) k < n
zeros_below size k n lt some = let zero_there : slice_index (replicate size 0) k ≡ 0 = get_or-replicate size k 0 0 lt in omega arith

pub set_below : (table : List ℕ) (i w k n : ℕ) → k < length (set table i w) → ((j : ℕ) → j < length table → slice_index table j < n) → w < n
    → slice_index (set table i w) k < n
set_below table i w k n lt below here =
    let size : length (set table i w) ≡ length table = length-set table i w in
    elim (cases_eq k i) [
      | inl same ↦ (let there : slice_index (set table i w) k ≡ w = get_or-set_at table i k w 0 same (omega arith) in omega arith)
      | inr other ↦ (let there : slice_index (set table i w) k ≡ slice_index table k = get_or-set_other table i k w 0 other in
          let old = below k (omega arith) in omega arith)
    ]
