-- KIN: whose itags are whose. What a node owns, what is below it and what is above it, in a valid plan.
use Rattle.std.specs.Prelude.{◌≡◌, ◌↔◌, ◌<◌, ℕ, true, false, ◌||◌, Some, None}
use Rattle.flu_model.specs.Itags.{count_of_itags}
use Rattle.flu_model.specs.Owners.{owner_of}
use Rattle.flu_deps.specs.Owned.{kids_at}
use Rattle.flu_fork.specs.Settings.{Setting, IsSetting}
use Rattle.flu_fork.specs.Classes.{Itags, itag, own, below, above}
use Rattle.flu_fork.specs.Texts.{InOneOf}

-- the itags of a node of the setting's plan, those of its subtree and those of its proper ancestors
abbrev pub own_at : Setting → ℕ → Itags
own_at k w = own k.program k.nodes w

abbrev pub below_at : Setting → ℕ → Itags
below_at k w = below k.program k.nodes w

abbrev pub above_at : Setting → ℕ → Itags
above_at k w = above k.program k.nodes w

-- an itag and a node: the node owns it where it is its owner; what it owns is below it, which at a leaf is all that is; what is above it is not below it
pub record IsOfNode (k : Setting) (w i : ℕ) : Type 0 where
  pub owner : (own_at k w i ≡ true) ↔ (owner_of k.program k.nodes (itag i) ≡ Some w)
  pub own : own_at k w i ≡ true → below_at k w i ≡ true
  pub leaf : kids_at k.nodes w ≡ None → below_at k w i ≡ own_at k w i
  pub above : above_at k w i ≡ true → below_at k w i ≡ false

-- an itag and a node with children: what is below it is its own, or below the left child, or below the right one, in one of the three alone; what is its own
-- or above it is above both children, and nothing else is; so no such itag is below a child
pub record IsOfKids (k : Setting) (w left right i : ℕ) : Type 0 where
  pub parts : InOneOf (below_at k w i) (own_at k w i) (below_at k left i) (below_at k right i)
  pub above_left : above_at k left i ≡ (own_at k w i || above_at k w i)
  pub above_right : above_at k right i ≡ (own_at k w i || above_at k w i)
  pub not_left : (own_at k w i || above_at k w i) ≡ true → below_at k left i ≡ false
  pub not_right : (own_at k w i || above_at k w i) ≡ true → below_at k right i ≡ false
  pub below_left : below_at k left i ≡ true → below_at k w i ≡ true
  pub below_right : below_at k right i ≡ true → below_at k w i ≡ true
  pub apart : below_at k left i ≡ true → below_at k right i ≡ false

-- an itag and the root: it is below it, and not above it
pub record IsOfRoot (k : Setting) (i : ℕ) : Type 0 where
  pub below : below_at k 0 i ≡ true
  pub above : above_at k 0 i ≡ false

-- ---- the laws: so it is for each itag of the job

abbrev pub ItagsAreOfNodes : Type 0
ItagsAreOfNodes = (k : Setting) (w i : ℕ) → IsSetting k → i < count_of_itags k.program → IsOfNode k w i

abbrev pub ItagsAreOfKids : Type 0
ItagsAreOfKids =
    (k : Setting) (w left right i : ℕ) → IsSetting k → kids_at k.nodes w ≡ Some (left, right) → i < count_of_itags k.program → IsOfKids k w left right i

abbrev pub ItagsAreOfTheRoot : Type 0
ItagsAreOfTheRoot = (k : Setting) (i : ℕ) → IsSetting k → i < count_of_itags k.program → IsOfRoot k i
