-- What a worker's rule says about what contracts see of it, in each hand.
use Rattle.std.specs.Prelude.{◌≡◌, ◌⊎◌, ◌||◌, ℕ, ◌<◌, ◌≤◌, Bool, true, false, Some, None, List, length, slice_index, IsSome, ⊤}
use Rattle.flu_model.specs.Itags.{count_of_itags}
use Rattle.flu_fork.specs.declared.lots.Ask.{Ask}
use Rattle.flu_fork.specs.declared.lots.Lot.{Lot}
use Rattle.flu_fork.specs.Lots.{job, nodes, kids, setting_of, LotFits}
use Rattle.flu_fork.specs.Settings.{events_at}
use Rattle.flu_worker.specs.declared.hand.Hand.{Hand}
use Rattle.flu_worker.specs.declared.hand.Hand.TheVariants.{Empty, Whole, Lending, Down, Taking}
use Rattle.flu_worker.specs.declared.hand.Side.{Side}
use Rattle.flu_worker.specs.declared.hand.Side.TheVariants.{Left, Right}
use Rattle.flu_worker.specs.declared.holding.Holding.{Holding}
use Rattle.flu_worker.specs.declared.holding.Holding.TheVariants.{Empty as NoLot, Whole as WholeLot, LendingBoth, LendingLeft}
use Rattle.flu_worker.specs.declared.holding.Holding.TheVariants.{LendingRight, Down as BothOut, TakingLeft, TakingRight, Gone}
use Rattle.flu_worker.specs.Agreeing.{IsTarget}
use Rattle.flu_worker.specs.Hands.{at_side, is_lost, is_open, is_out}
use Rattle.flu_worker.specs.Holding.{hand_of}
use Rattle.flu_worker.specs.Notes.{WorkerNote, lent_to, own_of, above_of}
use Rattle.flu_worker.specs.Rule.{Holds}

-- a leaf keeps no target, and an inner worker whose parts both came back has one
pub record KeepsWhole (n : WorkerNote) : Type 0 where
  pub leaf : kids n.case n.node ≡ None → n.kept ≡ None
  pub inner : IsSome (kids n.case n.node) → IsSome n.kept

-- a part is still to be lent, and no target is kept
pub record KeepsLending (left right : Bool) (n : WorkerNote) : Type 0 where
  pub inner : IsSome (kids n.case n.node)
  pub kept : n.kept ≡ None
  pub some : (left || right) ≡ true

-- one part came back, for a target
pub record KeepsTaking (left right : Bool) (n : WorkerNote) : Type 0 where
  pub inner : IsSome (kids n.case n.node)
  pub kept : IsSome n.kept
  pub some : (left || right) ≡ true

abbrev pub KeepsIn : Hand → WorkerNote → Type 0
KeepsIn Empty n = n.kept ≡ None
KeepsIn Whole n = KeepsWhole n
KeepsIn (Lending left right) n = KeepsLending left right n
KeepsIn Down n = IsSome (kids n.case n.node)
KeepsIn (Taking left right) n = is_lost (Taking left right) ≡ false → KeepsTaking left right n

-- a part of the worker's lot fits the child that it is for
abbrev pub PartFits : Side → WorkerNote → Lot → Type 0
PartFits s n part = (l r : ℕ) → kids n.case n.node ≡ Some (l, r) → LotFits n.case (at_side s l r) part

-- the partial states in a hand are those that their counts describe: a whole lot fits the node, and each part fits its child
abbrev pub LotsFit : WorkerNote → Holding → Type 0
LotsFit n NoLot = ⊤
LotsFit n (WholeLot lot) = LotFits n.case n.node lot
LotsFit n (LendingBoth left right) = PartFits Left n left × PartFits Right n right
LotsFit n (LendingLeft left) = PartFits Left n left
LotsFit n (LendingRight right) = PartFits Right n right
LotsFit n BothOut = ⊤
LotsFit n (TakingLeft left) = PartFits Left n left
LotsFit n (TakingRight right) = PartFits Right n right
LotsFit n Gone = ⊤

pub record HasRule (n : WorkerNote) : Type 0 where
  pub there : n.node < length (nodes n.case)
  pub long : length n.counts ≡ count_of_itags (job n.case)
  pub shape : n.hand ≡ hand_of n.holding
  pub lots : LotsFit n n.holding
  -- what its rule says about what it has in its hand
  pub holds : Holds n n.holding
  pub counted : (i : ℕ) → slice_index n.counts i ≤ length (events_at (setting_of n.case) i)
  pub keeps : KeepsIn n.hand n
  -- while the lot is here or parts of it are out, the events of the itags above are counted as in the lot that was held, and in a part that is out those of
  -- the node's own itags and of the itags above are counted as the worker counts them
  pub held : (i : ℕ) → is_open n.hand ≡ true → is_lost n.hand ≡ false → i < count_of_itags (job n.case) → above_of n i ≡ true
      → slice_index n.counts i ≡ slice_index n.held.upto i
  pub lent : (s : Side) (i : ℕ) → is_out s n.hand ≡ true → (own_of n i ≡ true) ⊎ (above_of n i ≡ true)
      → slice_index n.counts i ≡ slice_index (lent_to s n).upto i
  -- a kept target is a target by the worker's counts
  pub target : (y : Ask) → n.kept ≡ Some y → IsTarget n.case n.node n.counts n.counts y

-- SEEING KEEPS IT: the rule says nothing about what the worker has seen
abbrev pub SeeingKeepsTheRule : Type 0
SeeingKeepsTheRule = (n : WorkerNote) (seen : List ℕ) → HasRule n → HasRule (record n { seen = seen })
