-- What a worker has in its hand, and what happens to a lot once it is whole.
use Rattle.std.specs.Prelude.{◌≡◌, ℕ, true, false, None, Some, IsSome}
use Rattle.flu_fork.specs.declared.content.Content.{Content}
use Rattle.flu_fork.specs.declared.lots.Lot.{Lot}
use Rattle.flu_fork.specs.Lots.{kids, HasCounts, PartsFitKids}
use Rattle.flu_worker.specs.declared.hand.Hand.{Hand}
use Rattle.flu_worker.specs.declared.hand.Hand.TheVariants.{Empty, Whole, Lending, Down, Taking}
use Rattle.flu_worker.specs.declared.holding.Holding.{Holding}
use Rattle.flu_worker.specs.declared.holding.Holding.TheVariants.{Empty as NoLot, Whole as WholeLot, LendingBoth, LendingLeft}
use Rattle.flu_worker.specs.declared.holding.Holding.TheVariants.{LendingRight, Down as BothOut, TakingLeft, TakingRight, Gone}

-- its shape. A worker that ran out of memory does not look like one that continues
abbrev pub hand_of : Holding → Hand
hand_of NoLot = Empty
hand_of (WholeLot lot) = Whole
hand_of (LendingBoth left right) = Lending true true
hand_of (LendingLeft left) = Lending true false
hand_of (LendingRight right) = Lending false true
hand_of BothOut = Down
hand_of (TakingLeft left) = Taking true false
hand_of (TakingRight right) = Taking false true
hand_of Gone = Taking true true

-- the two parts of a lot, for the children of an inner node
pub record IsFork (k : Content) (w : ℕ) (lot a b : Lot) : Type 0 where
  pub inner : IsSome (kids k w)
  pub counts : HasCounts lot (a, b)
  pub fits : (l r : ℕ) → kids k w ≡ Some (l, r) → PartsFitKids k l r (a, b)

pub record IsLeafLot (k : Content) (w : ℕ) (lot here : Lot) : Type 0 where
  pub leaf : kids k w ≡ None
  pub same : here ≡ lot

-- a leaf has it whole, and an inner worker has its two parts
abbrev pub IsHeldAs : Content → ℕ → Lot → Holding → Type 0
IsHeldAs k w lot NoLot = ⊥
IsHeldAs k w lot (WholeLot here) = IsLeafLot k w lot here
IsHeldAs k w lot (LendingBoth a b) = IsFork k w lot a b
IsHeldAs k w lot (LendingLeft a) = ⊥
IsHeldAs k w lot (LendingRight b) = ⊥
IsHeldAs k w lot BothOut = ⊥
IsHeldAs k w lot (TakingLeft a) = ⊥
IsHeldAs k w lot (TakingRight b) = ⊥
IsHeldAs k w lot Gone = ⊥
